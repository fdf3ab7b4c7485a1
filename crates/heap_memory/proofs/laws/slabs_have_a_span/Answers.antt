use Rattle.heap_memory.proofs.ChunkLemmas.{slab_has_span}
use Rattle.heap_memory.proofs.laws.slabs_have_a_span.Goals as goal

pub returns : goal.returns
returns c = λ memory base setting state header is at. slab_has_span setting state memory base is at
