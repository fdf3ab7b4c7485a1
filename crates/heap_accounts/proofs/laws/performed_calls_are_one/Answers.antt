use Rattle.heap_accounts.proofs.PerformedLemmas.{performed_one}
use Rattle.heap_accounts.proofs.laws.performed_calls_are_one.Goals as goal

pub returns : goal.returns
returns c = performed_one
