-- What is read of accounts.
use Rattle.std.proofs.Common.{◌≡◌, ℕ, ◌+◌, ◌<◌, List, Option, Some, refl, sym, ap, ◌∙◌, subst}
use Rattle.std.specs.Prelude.{length}
use Rattle.std.specs.Option.{option_and_then}
use Rattle.case_table.specs.declared.limits.TheConstants.{CLASS_COUNT}
use Rattle.script.specs.Rules.{IsHeader}
use Rattle.script.specs.Plan.{Call}
use Rattle.plain_heap.specs.Calls.{due_call}
use Rattle.plain_heap.specs.State.{word_of_slot}
use Rattle.plain_heap.specs.Laws.{AreSeparate}
use Rattle.plain_heap.proofs.PlacesLemmas.{is_cache_of}
use Rattle.plain_heap.proofs.SeparateLemmas.{history_in_place}
use Rattle.heap_ledger.specs.Ledger.{IsLedger, Ledger, run_setting, run_state}
use Rattle.heap_slabs.specs.declared.placed.Placed.{Placed}
use Rattle.heap_slabs.specs.Chunks.{IsAtItsPlace, placed_at}
use Rattle.heap_accounts.specs.Frees.{freed_by, freed_next, placed_in_slot}
use Rattle.heap_accounts.specs.Kinds.{freed_slot}
use Rattle.heap_accounts.specs.Places.{cache_count}

-- the chunk at the word of the slot that the next call gives back
pub freed_told : (ledger : Ledger) (thread number slot word : ℕ) (its : Call) (placed : Option Placed)
    → due_call ledger.plan ledger.entries thread number ≡ Some its → freed_slot its.op ≡ Some slot
    → word ≡ word_of_slot (run_state ledger) thread slot
    → placed ≡ placed_at (run_setting ledger) (run_state ledger) word → placed ≡ freed_next ledger thread number
freed_told ledger thread number slot word its placed due freed is at =
    at ∙ ap (placed_at (run_setting ledger) (run_state ledger)) is
    ∙ sym (ap (option_and_then (placed_in_slot ledger thread)) freed)
    ∙ sym (ap (option_and_then (freed_by ledger thread)) due)

-- the cache of a chunk at its place is one
pub cache_there : (ledger : Ledger) (placed : Placed) → IsLedger ledger
    → IsAtItsPlace (run_setting ledger) (run_state ledger) placed → placed.cache < cache_count (run_setting ledger)
cache_there ledger placed legal at =
    let setting = run_setting ledger in
    let header : IsHeader setting.header = legal.plan.header in
    let places = history_in_place setting ledger.entries header legal.legal in
    subst (λ (c : ℕ). c < cache_count setting) (sym at.cache)
    (is_cache_of setting (run_state ledger).live (run_state ledger).slabs header places at.slab at.stands)
