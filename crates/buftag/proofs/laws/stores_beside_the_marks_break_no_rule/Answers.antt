use Rattle.buftag.proofs.WrittenLemmas.{finding-kept}
use Rattle.buftag.proofs.laws.stores_beside_the_marks_break_no_rule.Goals as goal

pub returns : goal.returns
returns c = finding-kept
