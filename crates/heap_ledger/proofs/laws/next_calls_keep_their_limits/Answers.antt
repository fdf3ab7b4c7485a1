use Rattle.heap_ledger.proofs.PlanLemmas.{next_keeps}
use Rattle.heap_ledger.proofs.laws.next_calls_keep_their_limits.Goals as goal

pub returns : goal.returns
returns c = next_keeps
