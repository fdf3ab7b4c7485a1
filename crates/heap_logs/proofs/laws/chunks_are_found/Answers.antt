use Rattle.heap_logs.proofs.ChunkLemmas.{chunks_found}
use Rattle.heap_logs.proofs.laws.chunks_are_found.Goals as goal

pub returns : goal.returns
returns c = chunks_found
