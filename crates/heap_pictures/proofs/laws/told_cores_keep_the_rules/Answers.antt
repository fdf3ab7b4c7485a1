use Rattle.heap_pictures.proofs.WholeLemmas.{keeps_rules}
use Rattle.heap_pictures.proofs.laws.told_cores_keep_the_rules.Goals as goal

pub returns : goal.returns
returns c = keeps_rules
