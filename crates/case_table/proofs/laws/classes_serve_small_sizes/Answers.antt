use Rattle.case_table.proofs.SizesLemmas.{class_for-small, class_for-large}
use Rattle.case_table.proofs.laws.classes_serve_small_sizes.Goals as goal

pub returns-clause-small : goal.returns-clause-small
returns-clause-small c = class_for-small

pub returns-clause-large : goal.returns-clause-large
returns-clause-large c = class_for-large
