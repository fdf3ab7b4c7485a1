use Rattle.heap_slabs.proofs.StateLemmas.{unused_by_count}
use Rattle.heap_slabs.proofs.laws.counts_of_zero_are_unused.Goals as goal

pub returns : goal.returns
returns c = unused_by_count
