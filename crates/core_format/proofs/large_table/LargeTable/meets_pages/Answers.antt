use Rattle.std.proofs.Common.{◌∙◌}
use Rattle.core_format.proofs.IndexLemmas.{any_meets_large}
use Rattle.core_format.proofs.large_table.LargeTable.meets_pages.Goals as goal

pub returns-in-Some : goal.returns-in-Some
returns-in-Some c = rw (← c.self.view_is) (c.in-Some.ensures.none ∙ any_meets_large c.self.inside.large.items c.self.inside.pages c.args.base c.args.past c.self.invariant)

pub returns-in-None : goal.returns-in-None
returns-in-None c = rw (← c.self.view_is) (c.in-None.ensures.none ∙ any_meets_large c.self.inside.large.items c.self.inside.pages c.args.base c.args.past c.self.invariant)
