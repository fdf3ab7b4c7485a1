use Rattle.heap_ledger.proofs.PlanLemmas.{all_are_made}
use Rattle.heap_ledger.proofs.laws.where_none_is_next_all_are_made.Goals as goal

pub returns : goal.returns
returns c = all_are_made
