use Rattle.std.proofs.Common.{◌≡◌, take}
use Rattle.std.specs.List.{flat_map}
use Rattle.heap_view.specs.Buffers.{chunks_of}
use Rattle.heap_view.proofs.build.all_chunks.Given as goal

abbrev pub invariant-loop-slab : goal.invariant-loop-slab
invariant-loop-slab l = l.chunks.items ≡ flat_map (chunks_of l.core) (take l.slab-index l.slab-items)
