use Rattle.script.proofs.KeptLemmas.{script_of-rules}
use Rattle.script.proofs.laws.read_plans_keep_the_rules.Goals as goal

pub returns : goal.returns
returns c = script_of-rules
