use Rattle.plain_heap.proofs.EntryLemmas.{follows_grow}
use Rattle.plain_heap.proofs.laws.following_grows.Goals as goal

pub returns : goal.returns
returns c = follows_grow
