use Rattle.plain_heap.proofs.LiveLemmas.{tells_given_back}
use Rattle.plain_heap.proofs.live_laws.a_book_tells_what_was_given_back.Goals as goal

pub returns : goal.returns
returns c = tells_given_back
