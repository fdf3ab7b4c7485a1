use Rattle.case_table.proofs.RecordLemmas.{same_from_spelling, same_behind_spelling}
use Rattle.case_table.proofs.laws.records_are_known_by_their_front.Goals as goal

pub returns-clause-values : goal.returns-clause-values
returns-clause-values c = same_from_spelling

pub returns-clause-behind : goal.returns-clause-behind
returns-clause-behind c = same_behind_spelling
