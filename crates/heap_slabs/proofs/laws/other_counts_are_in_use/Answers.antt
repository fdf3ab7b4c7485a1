use Rattle.heap_slabs.proofs.LawLemmas.{in_use}
use Rattle.heap_slabs.proofs.laws.other_counts_are_in_use.Goals as goal

pub returns : goal.returns
returns c = in_use
