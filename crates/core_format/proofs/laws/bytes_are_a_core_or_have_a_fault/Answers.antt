use Rattle.core_format.proofs.LawLemmas.{core_or_fault, no_fault, one_core}
use Rattle.core_format.proofs.laws.bytes_are_a_core_or_have_a_fault.Goals as goal

pub returns-clause-one : goal.returns-clause-one
returns-clause-one c = core_or_fault

pub returns-clause-not_both : goal.returns-clause-not_both
returns-clause-not_both c = no_fault

pub returns-clause-one_core : goal.returns-clause-one_core
returns-clause-one_core c = one_core
