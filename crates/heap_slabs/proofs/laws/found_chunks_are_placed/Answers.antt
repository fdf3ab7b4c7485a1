use Rattle.heap_slabs.proofs.LawLemmas.{found_is_placed}
use Rattle.heap_slabs.proofs.laws.found_chunks_are_placed.Goals as goal

pub returns : goal.returns
returns c = found_is_placed
