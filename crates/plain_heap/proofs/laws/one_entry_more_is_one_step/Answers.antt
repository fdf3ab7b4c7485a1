use Rattle.plain_heap.proofs.EntryLemmas.{one_more}
use Rattle.plain_heap.proofs.laws.one_entry_more_is_one_step.Goals as goal

pub returns : goal.returns
returns c = one_more
