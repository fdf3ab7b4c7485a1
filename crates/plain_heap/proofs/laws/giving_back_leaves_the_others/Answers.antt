use Rattle.plain_heap.proofs.EntryLemmas.{giving_back}
use Rattle.plain_heap.proofs.laws.giving_back_leaves_the_others.Goals as goal

pub returns : goal.returns
returns c = giving_back
