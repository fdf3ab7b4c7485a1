use Rattle.heap_ledger.proofs.PlanLemmas.{firsts_made}
use Rattle.heap_ledger.proofs.laws.first_calls_are_made.Goals as goal

pub returns : goal.returns
returns c = firsts_made
