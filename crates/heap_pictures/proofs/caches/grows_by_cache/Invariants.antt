use Rattle.std.proofs.Common.{◌≡◌, ◌≤◌}
use Rattle.std.specs.Prelude.{map}
use Rattle.std.specs.List.{range_with_len}
use Rattle.plain_heap.specs.State.{grows_of}
use Rattle.heap_ledger.specs.Ledger.{run_state}
use Rattle.heap_pictures.proofs.caches.grows_by_cache.Given as goal

abbrev pub invariant-loop-cache : goal.invariant-loop-cache
invariant-loop-cache l = record {
  made : l.grows.items ≡ map (grows_of (run_state l.accounts)) (range_with_len 0 l.cache);
  within : l.cache ≤ l.count;
}
