use Rattle.case_table.proofs.RecordLemmas.{IsBytes-from_All, Fit-numbers_at, numbers_at-spelling, spelling-numbers_at}
use Rattle.case_table.proofs.laws.numbers_are_spelled_as_their_bytes.Goals as goal

pub returns-clause-spelled : goal.returns-clause-spelled
returns-clause-spelled c = λ widths bytes all room. spelling-numbers_at widths bytes (IsBytes-from_All bytes all) room

pub returns-clause-fit : goal.returns-clause-fit
returns-clause-fit c = λ widths bytes all. Fit-numbers_at widths bytes (IsBytes-from_All bytes all)

pub returns-clause-back : goal.returns-clause-back
returns-clause-back c = numbers_at-spelling
