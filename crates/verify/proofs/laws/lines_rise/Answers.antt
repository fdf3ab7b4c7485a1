use Rattle.heap_view.proofs.LayoutLemmas.{laid_out}
use Rattle.verify.proofs.RiseLemmas.{findings_rise}
use Rattle.verify.proofs.laws.lines_rise.Goals as goal

pub returns : goal.returns
returns c = λ core rules. findings_rise core (laid_out core rules)
