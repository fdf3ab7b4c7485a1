use Rattle.plain_heap.proofs.ChunkWrites.{chunks_keep}
use Rattle.plain_heap.proofs.laws.chunks_keep_their_bytes.Goals as goal

pub returns : goal.returns
returns c = chunks_keep
