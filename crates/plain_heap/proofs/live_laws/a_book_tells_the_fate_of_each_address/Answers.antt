use Rattle.plain_heap.proofs.LiveLemmas.{tells_fate}
use Rattle.plain_heap.proofs.live_laws.a_book_tells_the_fate_of_each_address.Goals as goal

pub returns : goal.returns
returns c = tells_fate
