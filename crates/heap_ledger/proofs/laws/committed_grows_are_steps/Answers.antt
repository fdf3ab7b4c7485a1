use Rattle.heap_ledger.proofs.MayCommitLemmas.{grows_step}
use Rattle.heap_ledger.proofs.laws.committed_grows_are_steps.Goals as goal

pub returns : goal.returns
returns c = grows_step
