use Rattle.std.proofs.Common.{◌≡◌, take}
use Rattle.std.specs.List.{flat_map}
use Rattle.heap_view.specs.Buffers.{slab_buffers}
use Rattle.heap_view.specs.View.{is_in_state}
use Rattle.heap_view.proofs.build.chunk_buffers.Given as goal

abbrev pub invariant-loop-slab : goal.invariant-loop-slab
invariant-loop-slab l = l.out.items ≡ flat_map (slab_buffers l.core (is_in_state l.core l.is_free)) (take l.slab-index l.slab-items)
