use Rattle.plain_heap.proofs.FreedLemmas.{shrinks_free}
use Rattle.plain_heap.proofs.laws.shrinks_free_their_pages.Goals as goal

pub returns : goal.returns
returns c = shrinks_free
