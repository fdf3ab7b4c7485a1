use Rattle.case_table.proofs.RecordLemmas.{same_from_place}
use Rattle.case_table.proofs.laws.records_are_known_by_their_bytes.Goals as goal

pub returns : goal.returns
returns c = same_from_place
