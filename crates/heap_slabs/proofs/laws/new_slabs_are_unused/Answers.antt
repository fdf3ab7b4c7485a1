use Rattle.heap_slabs.proofs.LawLemmas.{new_unused}
use Rattle.heap_slabs.proofs.laws.new_slabs_are_unused.Goals as goal

pub returns : goal.returns
returns c = new_unused
