use Rattle.case_table.proofs.GeometryLemmas.{chunks_stand}
use Rattle.case_table.proofs.laws.chunks_stand_in_their_slab.Goals as goal

pub returns : goal.returns
returns c = chunks_stand
