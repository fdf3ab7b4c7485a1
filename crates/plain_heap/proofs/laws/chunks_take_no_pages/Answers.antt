use Rattle.plain_heap.proofs.PagesLemmas.{chunks_take_none}
use Rattle.plain_heap.proofs.laws.chunks_take_no_pages.Goals as goal

pub returns : goal.returns
returns c = chunks_take_none
