use Rattle.heap_ledger.proofs.MayCommitLemmas.{reaps_may}
use Rattle.heap_ledger.proofs.laws.reaps_may_be_committed.Goals as goal

pub returns : goal.returns
returns c = reaps_may
