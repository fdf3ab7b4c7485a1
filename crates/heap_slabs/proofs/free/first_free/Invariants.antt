use Rattle.heap_slabs.specs.Standing.{AreLive}
use Rattle.heap_slabs.proofs.free.first_free.Given as goal

abbrev pub invariant-loop-index : goal.invariant-loop-index
invariant-loop-index l = AreLive l.live.buffers l.slab l.index
