use Rattle.std.proofs.Common.{List, subst, sym}
use Rattle.std.specs.List.{Contains}
use Rattle.core_format.specs.declared.items.SlabItem.{SlabItem}
use Rattle.heap_view.proofs.build.chunk_buffers.Goals as goal

pub put_slab-requires-clause-slab : goal.put_slab-requires-clause-slab
put_slab-requires-clause-slab c =
    subst (λ (xs : List SlabItem). Contains xs c.slab-item.result) c.as_slice-slab-items.ensures (c.loop-slab.slab-index, c.loop-slab-test.true, sym c.slab-item.is)
