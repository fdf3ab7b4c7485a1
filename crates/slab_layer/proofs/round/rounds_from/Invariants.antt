use Rattle.std.proofs.Common.{◌≡◌, ◌+◌}
use Rattle.std.specs.List.{range_with_len}
use Rattle.slab_layer.proofs.round.rounds_from.Given as goal

abbrev pub invariant-loop-index : goal.invariant-loop-index
invariant-loop-index l = (l.rounds.items ≡ range_with_len l.first l.index) × (l.rounds.spare + l.index ≡ l.count)
