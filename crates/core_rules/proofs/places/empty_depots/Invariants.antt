use Rattle.std.proofs.Common.{◌≡◌, ◌≤◌}
use Rattle.std.specs.Prelude.{map}
use Rattle.std.specs.List.{range_with_len}
use Rattle.core_rules.specs.Pieces.{empty_depot}
use Rattle.core_rules.proofs.places.empty_depots.Given as goal

abbrev pub invariant-loop : goal.invariant-loop
invariant-loop l = record {
  made : l.depots.items ≡ map empty_depot (range_with_len 0 l.counter);
  within : l.counter ≤ l.caches;
}
