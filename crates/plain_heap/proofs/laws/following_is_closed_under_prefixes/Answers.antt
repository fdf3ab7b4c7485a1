use Rattle.plain_heap.proofs.EntryLemmas.{follows_front}
use Rattle.plain_heap.proofs.laws.following_is_closed_under_prefixes.Goals as goal

pub returns : goal.returns
returns c = follows_front
