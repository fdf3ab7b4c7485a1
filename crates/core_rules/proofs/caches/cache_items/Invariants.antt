use Rattle.std.proofs.Common.{◌≡◌, ◌≤◌, length}
use Rattle.std.specs.Prelude.{map}
use Rattle.std.specs.List.{range_with_len}
use Rattle.core_rules.specs.Pieces.{cache_item}
use Rattle.core_rules.proofs.caches.cache_items.Given as goal

abbrev pub invariant-loop-cache : goal.invariant-loop-cache
invariant-loop-cache l = record {
  made : l.items.items ≡ map (cache_item l.declared l.grows) (range_with_len 0 l.cache);
  within : l.cache ≤ length l.grows;
}
