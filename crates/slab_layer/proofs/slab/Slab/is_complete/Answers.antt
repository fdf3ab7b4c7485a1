use Rattle.slab_layer.proofs.SlabLemmas.{decides_complete}
use Rattle.slab_layer.proofs.slab.Slab.is_complete.Goals as goal

pub returns : goal.returns
returns c = rw (← c.self.view_is, c.as_slice.ensures) (decides_complete _ c.self.invariant.0)
