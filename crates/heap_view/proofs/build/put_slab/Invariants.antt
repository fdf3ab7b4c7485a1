use Rattle.std.proofs.Common.{◌≡◌, ◌++◌, map}
use Rattle.std.specs.List.{filter}
use Rattle.heap_view.specs.Buffers.{chunk_buffer, numbers_from}
use Rattle.heap_view.specs.View.{is_in_state}
use Rattle.heap_view.proofs.build.put_slab.Given as goal

abbrev pub invariant-loop-index : goal.invariant-loop-index
invariant-loop-index l = l.out.items ≡ l.initial.out.items ++ map (chunk_buffer l.core l.slab) (filter (is_in_state l.core l.is_free) (numbers_from l.slab.first l.index))
