use Rattle.heap_ledger.proofs.MayCommitLemmas.{grows_may}
use Rattle.heap_ledger.proofs.laws.grows_may_be_committed.Goals as goal

pub returns : goal.returns
returns c = grows_may
