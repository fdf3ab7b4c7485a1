use Rattle.heap_slabs.proofs.StandingLemmas.{IsLowestBefore}
use Rattle.heap_slabs.proofs.free.lowest_with_free.Given as goal

abbrev pub invariant-loop-index : goal.invariant-loop-index
invariant-loop-index l = IsLowestBefore l.cache l.slabs l.index l.lowest
