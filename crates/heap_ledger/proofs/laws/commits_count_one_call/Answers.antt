use Rattle.heap_ledger.proofs.CommitLemmas.{one_counted}
use Rattle.heap_ledger.proofs.laws.commits_count_one_call.Goals as goal

pub returns : goal.returns
returns c = one_counted
