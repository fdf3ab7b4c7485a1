-- How many bytes the fail log of a run has: no more than its log was given.
use Rattle.std.proofs.Common.{ℕ, ◌-◌, ◌≤◌, [], ◌∷◌, length, get_or, refl, ap, arith}
use Rattle.std.specs.List.{flat_map}
use Rattle.std.proofs.Math.Nat.{div-mul-le_self}
use Rattle.std.proofs.lemmas.List.{length-drop}
use Rattle.umem_options.specs.Capacity.{fail_capacity}
use Rattle.umem_options.specs.Limits.{IsLogging}
use Rattle.core_format.specs.declared.whole.Core.{Core}
use Rattle.core_format.specs.Logs.{fail_widths}
use Rattle.core_format.specs.Spelling.{spelled_fail}
use Rattle.heap_ledger.specs.Ledger.{Ledger}
use Rattle.heap_logs.specs.Fails.{fails_of}
use Rattle.heap_pictures.specs.Pictures.{Pictures}
use Rattle.core_sizes.proofs.LengthLemmas.{items_long, record_long}

-- the bytes of the largest log
abbrev pub most_log : ℕ
most_log = 67108864

pub fails_long : (ledger : Ledger) (core : Core) → IsLogging ledger.logging → Pictures ledger core
    → length (flat_map spelled_fail core.fails) ≤ most_log
fails_long ledger core within is =
    let all = fails_of ledger.plan.header.caches ledger.entries in
    let few = length-drop (length all - fail_capacity ledger.logging) all in
    let each = items_long spelled_fail 24 core.fails (λ k d lt.
    let fail = get_or core.fails k d in
    omega (arith, record_long fail_widths (fail.thread ∷ fail.cache ∷ fail.size ∷ fail.time ∷ []) refl)) in
    let fits = div-mul-le_self ledger.logging.fail 24 in
    omega (arith, each, few, ap length is.tells.logs.fails, fits, within.fail)
