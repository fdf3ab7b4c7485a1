use Rattle.heap_memory.proofs.ChunkLemmas.{large_has_span}
use Rattle.heap_memory.proofs.laws.large_buffers_have_a_span.Goals as goal

pub returns : goal.returns
returns c = λ memory address setting state header is at. large_has_span setting state memory address is at
