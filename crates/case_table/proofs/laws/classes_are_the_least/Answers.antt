use Rattle.case_table.proofs.SizesLemmas.{least_from_class, class_from_least}
use Rattle.case_table.proofs.laws.classes_are_the_least.Goals as goal

pub returns-clause-least : goal.returns-clause-least
returns-clause-least c = least_from_class

pub returns-clause-class : goal.returns-clause-class
returns-clause-class c = class_from_least
