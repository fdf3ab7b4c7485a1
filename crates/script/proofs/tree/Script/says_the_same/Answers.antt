use Rattle.script.proofs.EqualLemmas.{script-Decides}
use Rattle.script.proofs.tree.Script.says_the_same.Goals as goal

pub returns : goal.returns
returns c = script-Decides c.args.self.now c.args.other.now c.eq.result c.eq.ensures
