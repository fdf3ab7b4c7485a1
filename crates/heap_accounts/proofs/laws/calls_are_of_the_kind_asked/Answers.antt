use Rattle.heap_accounts.proofs.AskedLemmas.{asked_kind}
use Rattle.heap_accounts.proofs.laws.calls_are_of_the_kind_asked.Goals as goal

pub returns : goal.returns
returns c = asked_kind
