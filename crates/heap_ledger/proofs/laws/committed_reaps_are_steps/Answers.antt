use Rattle.heap_ledger.proofs.MayCommitLemmas.{reaps_step}
use Rattle.heap_ledger.proofs.laws.committed_reaps_are_steps.Goals as goal

pub returns : goal.returns
returns c = reaps_step
