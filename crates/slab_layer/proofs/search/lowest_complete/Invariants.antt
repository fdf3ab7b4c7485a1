use Rattle.slab_layer.proofs.SlabsLemmas.{IsLowestBefore}
use Rattle.slab_layer.proofs.search.lowest_complete.Given as goal

abbrev pub invariant-loop-index : goal.invariant-loop-index
invariant-loop-index l = IsLowestBefore l.slabs l.index l.lowest
