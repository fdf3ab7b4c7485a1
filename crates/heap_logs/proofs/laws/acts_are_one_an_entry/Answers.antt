use Rattle.heap_logs.proofs.GrowthLemmas.{acts_are_one}
use Rattle.heap_logs.proofs.laws.acts_are_one_an_entry.Goals as goal

pub returns : goal.returns
returns c = acts_are_one
