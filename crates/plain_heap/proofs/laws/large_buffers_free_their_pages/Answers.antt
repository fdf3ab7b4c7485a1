use Rattle.plain_heap.proofs.FreedLemmas.{larges_free}
use Rattle.plain_heap.proofs.laws.large_buffers_free_their_pages.Goals as goal

pub returns : goal.returns
returns c = larges_free
