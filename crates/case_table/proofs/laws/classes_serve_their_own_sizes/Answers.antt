use Rattle.case_table.proofs.SizesLemmas.{class_for-own, size_of-rises}
use Rattle.case_table.proofs.laws.classes_serve_their_own_sizes.Goals as goal

pub returns-clause-own : goal.returns-clause-own
returns-clause-own c = class_for-own

pub returns-clause-rise : goal.returns-clause-rise
returns-clause-rise c = size_of-rises
