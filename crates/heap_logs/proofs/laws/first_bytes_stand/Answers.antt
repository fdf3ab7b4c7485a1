use Rattle.heap_logs.proofs.ChunkLemmas.{first_bytes}
use Rattle.heap_logs.proofs.laws.first_bytes_stand.Goals as goal

pub returns : goal.returns
returns c = first_bytes
