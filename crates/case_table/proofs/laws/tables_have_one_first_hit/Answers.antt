use Rattle.case_table.proofs.CasesLemmas.{same_first_hit}
use Rattle.case_table.proofs.laws.tables_have_one_first_hit.Goals as goal

pub returns : goal.returns
returns c = same_first_hit
