use Rattle.plain_heap.proofs.LiveLemmas.{tells_handed}
use Rattle.plain_heap.proofs.live_laws.a_longer_book_tells_what_was_handed_out.Goals as goal

pub returns : goal.returns
returns c = tells_handed
