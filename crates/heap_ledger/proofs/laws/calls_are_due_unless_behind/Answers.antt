use Rattle.heap_ledger.proofs.PlanLemmas.{due_unless}
use Rattle.heap_ledger.proofs.laws.calls_are_due_unless_behind.Goals as goal

pub returns : goal.returns
returns c = due_unless
