use Rattle.plain_heap.proofs.EntryLemmas.{legal_grow}
use Rattle.plain_heap.proofs.laws.legal_histories_grow.Goals as goal

pub returns : goal.returns
returns c = legal_grow
