use Rattle.heap_memory.proofs.ChunkLemmas.{kind_sound}
use Rattle.heap_memory.proofs.laws.kinds_of_caches_are_sound.Goals as goal

pub returns : goal.returns
returns c = kind_sound
