use Rattle.core_sizes.proofs.WholeLemmas.{cores_small}
use Rattle.core_sizes.proofs.laws.cores_of_runs_are_read.Goals as goal

pub returns : goal.returns
returns c = cores_small
