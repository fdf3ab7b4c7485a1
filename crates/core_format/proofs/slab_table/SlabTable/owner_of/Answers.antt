use Rattle.core_format.proofs.IndexLemmas.{any_has_chunk}
use Rattle.core_format.proofs.SlabTableLemmas.{owns_from_some}
use Rattle.core_format.proofs.slab_table.SlabTable.owner_of.Goals as goal

pub returns-clause-found : goal.returns-clause-found
returns-clause-found c = rw (c.owner_of.ensures.found, c.from.ensures, ← c.self.view_is) (any_has_chunk c.self.inside.shapes.items c.self.inside.slabs.items c.self.inside.chunks c.args.chunk c.self.invariant.ranges_are)

pub returns-clause-owner : goal.returns-clause-owner
returns-clause-owner c = rw (← c.self.view_is) (owns_from_some c.self.inside.shapes.items c.self.inside.slabs.items c.self.inside.chunks c.self.inside.pages c.args.chunk c.owner_of.result c.self.invariant (rw c.from.ensures at c.owner_of.ensures.some))
