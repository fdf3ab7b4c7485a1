use Rattle.std.proofs.Common.{◌≡◌, ◌++◌, drop}
use Rattle.std.specs.List.{flat_map}
use Rattle.core_format.specs.Spelling.{spelled_cache}
use Rattle.core_format.proofs.put_caches.put_caches.Given as goal

abbrev pub invariant-loop-item : goal.invariant-loop-item
invariant-loop-item l = l.out.items ++ flat_map (spelled_cache l.version) (drop l.item-index l.caches) ≡ l.fn.out.items ++ flat_map (spelled_cache l.version) l.caches
