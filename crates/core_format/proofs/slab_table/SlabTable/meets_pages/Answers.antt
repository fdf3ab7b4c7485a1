use Rattle.std.proofs.Common.{◌∙◌, List, ap}
use Rattle.std.specs.List.{list_any}
use Rattle.core_format.specs.declared.range.Range.{Range}
use Rattle.core_format.specs.Ranges.{meets_range, slab_range}
use Rattle.core_format.proofs.IndexLemmas.{any-map}
use Rattle.core_format.proofs.slab_table.SlabTable.meets_pages.Goals as goal

pub returns-in-Some : goal.returns-in-Some
returns-in-Some c =
    rw (← c.self.view_is) (c.in-Some.ensures.none ∙ ap (λ (rs : List Range). list_any (meets_range c.args.base c.args.past) rs) c.self.invariant.pages_are ∙ any-map (meets_range c.args.base c.args.past) (slab_range c.self.inside.shapes.items) c.self.inside.slabs.items)

pub returns-in-None : goal.returns-in-None
returns-in-None c =
    rw (← c.self.view_is) (c.in-None.ensures.none ∙ ap (λ (rs : List Range). list_any (meets_range c.args.base c.args.past) rs) c.self.invariant.pages_are ∙ any-map (meets_range c.args.base c.args.past) (slab_range c.self.inside.shapes.items) c.self.inside.slabs.items)
