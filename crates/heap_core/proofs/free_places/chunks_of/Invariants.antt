use Rattle.std.proofs.Common.{◌≡◌, take}
use Rattle.heap_core.proofs.free_places.chunks_of.Given as goal

abbrev pub invariant-loop-round : goal.invariant-loop-round
invariant-loop-round l = l.chunks.items ≡ take l.round-index l.rounds
