use Rattle.heap_ledger.proofs.PlanLemmas.{made_few}
use Rattle.heap_ledger.proofs.laws.calls_made_are_few.Goals as goal

pub returns : goal.returns
returns c = made_few
