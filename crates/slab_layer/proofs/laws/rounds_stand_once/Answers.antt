use Rattle.slab_layer.proofs.SlabsLemmas.{rounds_increase}
use Rattle.slab_layer.proofs.laws.rounds_stand_once.Goals as goal

pub returns : goal.returns
returns c = rounds_increase
