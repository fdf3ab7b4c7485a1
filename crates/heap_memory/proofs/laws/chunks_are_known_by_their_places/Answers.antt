use Rattle.heap_memory.proofs.ChunkLemmas.{found_at_place}
use Rattle.heap_memory.proofs.laws.chunks_are_known_by_their_places.Goals as goal

pub returns : goal.returns
returns c = found_at_place
