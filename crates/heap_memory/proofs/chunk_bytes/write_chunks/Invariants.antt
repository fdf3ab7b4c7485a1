use Rattle.std.proofs.Common.{◌≡◌, ◌+◌, ◌*◌}
use Rattle.addr_space.specs.Space.{IsSound, Writes, runs_of}
use Rattle.plain_heap.specs.Setting.{Setting}
use Rattle.plain_heap.specs.State.{made_chunk}
use Rattle.heap_memory.specs.Chunks.{byte_of_chunks, kind_in}
use Rattle.heap_memory.proofs.chunk_bytes.write_chunks.Given as goal

abbrev pub invariant-loop-index : goal.invariant-loop-index
invariant-loop-index l = record {
  written : (setting : Setting) → l.slab.kind ≡ kind_in setting l.slab.kind.cache
      → Writes l.initial.space l.space l.start (l.index * l.layout.chunk) (byte_of_chunks l.layout.chunk (λ index. made_chunk setting l.slab.kind.cache (l.slab.first + index)));
  sound : IsSound l.space;
  runs : runs_of l.space ≡ runs_of l.initial.space;
}
