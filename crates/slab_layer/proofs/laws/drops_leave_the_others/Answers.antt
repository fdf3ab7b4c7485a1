use Rattle.slab_layer.proofs.SlabsLemmas.{without_complete-dropped, without_complete-none}
use Rattle.slab_layer.proofs.laws.drops_leave_the_others.Goals as goal

pub returns-clause-dropped : goal.returns-clause-dropped
returns-clause-dropped c = without_complete-dropped

pub returns-clause-none : goal.returns-clause-none
returns-clause-none c = without_complete-none
