use Rattle.std.proofs.Common.{ℕ, sym, subst}
use Rattle.heap_memory.specs.declared.chunk.Chunk.{Chunk}
use Rattle.heap_memory.specs.Chunks.{IsChunkAt, kind_in}
use Rattle.heap_memory.specs.Laws.{chunk_of_slab}
use Rattle.heap_slabs.proofs.laws.placed_chunks_are_known.Goals as goal

pub returns : goal.returns
returns c setting state placed header separate at =
    subst (λ (x : Chunk). IsChunkAt (kind_in setting placed.cache) x setting state) (sym at.chunk)
    (subst (λ (n : ℕ). IsChunkAt (kind_in setting n) (chunk_of_slab setting at.slab at.index) setting state) (sym at.cache)
    (c.chunks_are_known_by_their_places.ensures setting state at.slab at.index header separate at.stands at.within))
