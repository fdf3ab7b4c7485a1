use Rattle.heap_logs.proofs.ChunkLemmas.{rise}
use Rattle.heap_logs.proofs.laws.standing_chunks_rise.Goals as goal

pub returns : goal.returns
returns c = rise
