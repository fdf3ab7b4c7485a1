use Rattle.case_table.proofs.RecordLemmas.{put_stands}
use Rattle.case_table.proofs.laws.records_stand_where_put.Goals as goal

pub returns : goal.returns
returns c = put_stands
