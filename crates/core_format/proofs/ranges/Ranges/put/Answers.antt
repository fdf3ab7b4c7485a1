use Rattle.std.proofs.lemmas.List.Sorted.{IsPermutation-insert}
use Rattle.core_format.proofs.RangeLemmas.{AreRanges-insert}
use Rattle.core_format.proofs.ranges.Ranges.put.Goals as goal

pub invariant_of-self-2 : goal.invariant_of-self-2
invariant_of-self-2 c = rw c.in_ok-insert.ensures.items (AreRanges-insert _ c.args.index c.args.range c.self.invariant c.requires.whole (rw (← c.self.view_is) at c.requires.place))

pub returns-clause-ok : goal.returns-clause-ok
returns-clause-ok c = rw (c.in_ok-insert.ensures.items, ← c.self.view_is) (IsPermutation-insert _ c.args.index c.args.range)
