use Rattle.case_table.proofs.RecordLemmas.{length-spelling}
use Rattle.case_table.proofs.laws.records_have_their_length.Goals as goal

pub returns : goal.returns
returns c = length-spelling
