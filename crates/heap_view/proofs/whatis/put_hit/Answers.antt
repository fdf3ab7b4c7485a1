use Rattle.heap_view.proofs.whatis.put_hit.Goals as goal

pub returns-in-Chunk : goal.returns-in-Chunk
returns-in-Chunk c = rw c.in-Chunk.is c.put_chunk.ensures

pub returns-in-Large : goal.returns-in-Large
returns-in-Large c = rw c.in-Large.is c.put_large.ensures

pub returns-in-Tail : goal.returns-in-Tail
returns-in-Tail c = rw c.in-Tail.is c.put_tail.ensures

pub returns-in-Slab : goal.returns-in-Slab
returns-in-Slab c = rw c.in-Slab.is c.put_gap.ensures

pub returns-in-Root : goal.returns-in-Root
returns-in-Root c = rw c.in-Root.is c.put_root.ensures

pub returns-in-OwnRoot : goal.returns-in-OwnRoot
returns-in-OwnRoot c = rw c.in-OwnRoot.is c.put_own.ensures
