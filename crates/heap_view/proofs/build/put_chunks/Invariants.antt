use Rattle.std.proofs.Common.{◌≡◌, ◌++◌}
use Rattle.heap_view.specs.Buffers.{numbers_from}
use Rattle.heap_view.proofs.build.put_chunks.Given as goal

abbrev pub invariant-loop-index : goal.invariant-loop-index
invariant-loop-index l = l.out.items ≡ l.initial.out.items ++ numbers_from l.slab.first l.index
