use Rattle.core_format.proofs.CoreLemmas.{one_spelling, read_again, spelled_as_read}
use Rattle.core_format.proofs.laws.cores_have_one_spelling.Goals as goal

pub returns-clause-spelled : goal.returns-clause-spelled
returns-clause-spelled c = spelled_as_read

pub returns-clause-one : goal.returns-clause-one
returns-clause-one c = one_spelling

pub returns-clause-again : goal.returns-clause-again
returns-clause-again c = read_again
