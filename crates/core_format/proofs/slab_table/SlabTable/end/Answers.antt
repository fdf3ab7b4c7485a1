use Rattle.core_format.proofs.IndexLemmas.{last_slab_end}
use Rattle.core_format.proofs.slab_table.SlabTable.end.Goals as goal

pub returns : goal.returns
returns c = rw (c.end.ensures, ← c.self.view_is, c.self.invariant.pages_are) (last_slab_end c.self.inside.shapes.items c.self.inside.slabs.items)
