use Rattle.heap_ledger.proofs.MayCommitLemmas.{answers_step}
use Rattle.heap_ledger.proofs.laws.committed_answers_are_steps.Goals as goal

pub returns : goal.returns
returns c = answers_step
