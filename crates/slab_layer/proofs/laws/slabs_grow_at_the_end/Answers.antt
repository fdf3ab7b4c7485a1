use Rattle.slab_layer.proofs.SlabsLemmas.{with_slab-last}
use Rattle.slab_layer.proofs.laws.slabs_grow_at_the_end.Goals as goal

pub returns : goal.returns
returns c = with_slab-last
