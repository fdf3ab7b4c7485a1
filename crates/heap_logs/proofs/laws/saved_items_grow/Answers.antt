use Rattle.heap_logs.proofs.GrowthLemmas.{saved_more}
use Rattle.heap_logs.proofs.laws.saved_items_grow.Goals as goal

pub returns : goal.returns
returns c = saved_more
