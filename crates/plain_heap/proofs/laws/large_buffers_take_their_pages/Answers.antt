use Rattle.plain_heap.proofs.PagesLemmas.{large_take}
use Rattle.plain_heap.proofs.laws.large_buffers_take_their_pages.Goals as goal

pub returns : goal.returns
returns c = large_take
