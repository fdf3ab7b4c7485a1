use Rattle.case_table.proofs.GeometryLemmas.{geometry_is_sound}
use Rattle.case_table.proofs.laws.geometries_are_sound.Goals as goal

pub returns : goal.returns
returns c = geometry_is_sound
