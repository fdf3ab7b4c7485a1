use Rattle.heap_pictures.proofs.WholeLemmas.{pictures}
use Rattle.heap_pictures.proofs.laws.told_cores_picture.Goals as goal

pub returns : goal.returns
returns c = pictures
