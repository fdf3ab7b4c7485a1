use Rattle.plain_heap.proofs.PagesLemmas.{grows_take}
use Rattle.plain_heap.proofs.laws.grows_take_their_pages.Goals as goal

pub returns : goal.returns
returns c = grows_take
