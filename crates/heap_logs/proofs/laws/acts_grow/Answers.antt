use Rattle.heap_logs.proofs.GrowthLemmas.{acts_more}
use Rattle.heap_logs.proofs.laws.acts_grow.Goals as goal

pub returns : goal.returns
returns c = acts_more
