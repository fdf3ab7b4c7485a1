use Rattle.plain_heap.proofs.LiveLemmas.{tells_start}
use Rattle.plain_heap.proofs.live_laws.an_empty_book_tells_the_start.Goals as goal

pub returns : goal.returns
returns c = tells_start
