use Rattle.case_table.proofs.RecordLemmas.{IsBytes-from_All, length-numbers_at, stand_numbers}
use Rattle.case_table.proofs.laws.numbers_stand_where_read.Goals as goal

pub returns-clause-count : goal.returns-clause-count
returns-clause-count c = length-numbers_at

pub returns-clause-stand : goal.returns-clause-stand
returns-clause-stand c = λ widths bytes at all room. stand_numbers widths bytes at (IsBytes-from_All bytes all) room
