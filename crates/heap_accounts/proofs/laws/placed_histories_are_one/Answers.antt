use Rattle.heap_accounts.proofs.CommitLemmas.{histories_one}
use Rattle.heap_accounts.proofs.laws.placed_histories_are_one.Goals as goal

pub returns : goal.returns
returns c = histories_one
