use Rattle.heap_accounts.proofs.OneThreadLemmas.{plans_decide}
use Rattle.heap_accounts.proofs.laws.plans_of_one_thread_decide.Goals as goal

pub returns : goal.returns
returns c = plans_decide
