use Rattle.std.proofs.Common.{◌∙◌}
use Rattle.core_format.proofs.IndexLemmas.{any_meets_chunks}
use Rattle.core_format.proofs.slab_table.SlabTable.meets_chunks.Goals as goal

pub returns-in-Some : goal.returns-in-Some
returns-in-Some c = rw (← c.self.view_is) (c.in-Some.ensures.none ∙ any_meets_chunks c.self.inside.shapes.items c.self.inside.slabs.items c.self.inside.chunks c.args.first c.args.past c.self.invariant.ranges_are)

pub returns-in-None : goal.returns-in-None
returns-in-None c = rw (← c.self.view_is) (c.in-None.ensures.none ∙ any_meets_chunks c.self.inside.shapes.items c.self.inside.slabs.items c.self.inside.chunks c.args.first c.args.past c.self.invariant.ranges_are)
