use Rattle.plain_heap.proofs.SeparateLemmas.{history_is_separate}
use Rattle.plain_heap.proofs.laws.live_buffers_are_disjoint.Goals as goal

pub returns : goal.returns
returns c = history_is_separate
