use Rattle.heap_ledger.proofs.CommitLemmas.{one_call}
use Rattle.heap_ledger.proofs.laws.commits_make_one_call.Goals as goal

pub returns : goal.returns
returns c = one_call
