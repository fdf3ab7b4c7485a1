use Rattle.heap_memory.proofs.ChunkLemmas.{chunk_in_run}
use Rattle.heap_memory.proofs.laws.chunks_are_inside_of_runs.Goals as goal

pub returns : goal.returns
returns c = λ memory kind chunk setting state header is at. chunk_in_run setting state memory kind chunk header is at
