use Rattle.heap_ledger.proofs.MayCommitLemmas.{answers_may}
use Rattle.heap_ledger.proofs.laws.answers_may_be_committed.Goals as goal

pub returns : goal.returns
returns c = answers_may
