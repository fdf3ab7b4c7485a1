use Rattle.std.proofs.Common.{◌+◌, ℕ, List, length, ◌∙◌, sym, ap}
use Rattle.std.proofs.lemmas.List.FromFn.{length-map-range_with_len}
use Rattle.case_table.specs.declared.limits.TheConstants.{CLASS_COUNT}
use Rattle.case_table.specs.declared.cache_def.CacheDef.{CacheDef}
use Rattle.plain_heap.specs.State.{grows_of}
use Rattle.heap_ledger.specs.Ledger.{run_setting, run_state}
use Rattle.heap_accounts.specs.Places.{cache_count}
use Rattle.heap_pictures.proofs.caches.caches_of.Goals as goal

pub cache_items-requires : goal.cache_items-requires
cache_items-requires c =
    let ledger = c.args.accounts.now in
    ap (λ (xs : List ℕ). length xs) (c.deref.ensures.value ∙ c.in_ok-grows.ensures)
    ∙ length-map-range_with_len (grows_of (run_state ledger)) 0 (cache_count (run_setting ledger))
    ∙ ap (λ (xs : List CacheDef). CLASS_COUNT + length xs) (sym (c.as_slice.ensures ∙ ap (λ h. h.caches) c.header.ensures))
