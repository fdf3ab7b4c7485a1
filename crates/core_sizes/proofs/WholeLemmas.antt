-- A core that pictures a run is no longer than what is read of a file.
use Rattle.std.proofs.Common.{◌≡◌, ◌+◌, ◌≤◌, length, arith}
use Rattle.std.specs.List.{flat_map}
use Rattle.umem_options.specs.Limits.{IsLogging, IsOptions}
use Rattle.core_format.specs.declared.whole.Core.{Core}
use Rattle.core_format.specs.Spelling.{spelled_audit, spelled_core, spelled_depot, spelled_fail, spelled_front, spelled_large, spelled_middle, spelled_pages, spelled_place, spelled_records, spelled_saved, spelled_slab, spelled_trans}
use Rattle.heap_view.proofs.LayoutLemmas.{laid_out}
use Rattle.heap_ledger.specs.Ledger.{IsLedger, Ledger}
use Rattle.heap_pictures.specs.Pictures.{Pictures}
use Rattle.core_sizes.specs.Laws.{CoresOfRunsAreRead}
use Rattle.core_sizes.proofs.AuditLemmas.{most_audits, audits_long}
use Rattle.core_sizes.proofs.FailLemmas.{most_log, fails_long}
use Rattle.core_sizes.proofs.FrontLemmas.{front_long}
use Rattle.core_sizes.proofs.LengthLemmas.{four_joined}
use Rattle.core_sizes.proofs.PageLemmas.{most_large, large_long, pages_long}
use Rattle.core_sizes.proofs.PlaceLemmas.{most_depots, most_places, depots_long, places_long}
use Rattle.core_sizes.proofs.SavedLemmas.{saved_long}
use Rattle.core_sizes.proofs.SlabLemmas.{most_pages, slabs_long}
use Rattle.core_sizes.proofs.TransLemmas.{most_trans, trans_long}

-- slabs, large buffers, magazines and depots
middle_long : (ledger : Ledger) (core : Core) → IsLedger ledger → Pictures ledger core
    → length (spelled_middle core) ≤ most_pages + most_large + most_places + most_depots
middle_long ledger core legal is =
    let slabs = flat_map spelled_slab core.slabs in
    let large = flat_map spelled_large core.large in
    let places = flat_map spelled_place core.cpu_places in
    let depots = flat_map spelled_depot core.depots in
    let all : length (spelled_middle core) ≡ length slabs + length large + length places + length depots =
    four_joined slabs large places depots in
    let one = slabs_long core is.rules in
    let two = large_long core (laid_out core is.rules) in
    let three = places_long ledger core legal is in
    let four = depots_long ledger core legal is in
    omega (arith, all, one, two, three, four)

-- audits and logs
records_long : (ledger : Ledger) (core : Core) → IsLedger ledger → IsOptions ledger.options
    → IsLogging ledger.logging → Pictures ledger core
    → length (spelled_records core) ≤ most_audits + most_trans + most_log + most_log
records_long ledger core legal options logging is =
    let audits = flat_map spelled_audit core.audits in
    let trans = flat_map spelled_trans core.trans in
    let fails = flat_map spelled_fail core.fails in
    let saved = flat_map spelled_saved core.saved in
    let all : length (spelled_records core) ≡ length audits + length trans + length fails + length saved =
    four_joined audits trans fails saved in
    let one = audits_long ledger legal options core is in
    let two = trans_long ledger legal options core is in
    let three = fails_long ledger core logging is in
    let four = saved_long ledger core logging is in
    omega (arith, all, one, two, three, four)

-- all of it
pub cores_small : CoresOfRunsAreRead
cores_small ledger core legal options logging is =
    let front = spelled_front core in
    let middle = spelled_middle core in
    let records = spelled_records core in
    let pages = spelled_pages core.slabs core.large in
    let all : length (spelled_core core) ≡ length front + length middle + length records + length pages =
    four_joined front middle records pages in
    let one = front_long ledger core legal is in
    let two = middle_long ledger core legal is in
    let three = records_long ledger core legal options logging is in
    let four = pages_long core (laid_out core is.rules) in
    omega (arith, all, one, two, three, four)
