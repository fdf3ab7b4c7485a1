use Rattle.std.proofs.Common.{◌≡◌, ◌≤◌, ◌*◌}
use Rattle.std.specs.Prelude.{map}
use Rattle.std.specs.List.{range_with_len}
use Rattle.core_rules.specs.Pieces.{empty_place}
use Rattle.core_rules.proofs.places.empty_places.Given as goal

abbrev pub invariant-loop-index : goal.invariant-loop-index
invariant-loop-index l = record {
  made : l.places.items ≡ map (empty_place l.caches) (range_with_len 0 l.index);
  within : l.index ≤ l.cpus * l.caches;
}
