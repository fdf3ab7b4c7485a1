use Rattle.std.proofs.Common.{subst, List, ◌≤◌, sym}
use Rattle.std.specs.Prelude.{unwrap_or}
use Rattle.std.specs.Option.{option_map}
use Rattle.core_format.specs.declared.range.Range.{Range}
use Rattle.core_format.specs.Items.{last_of_list}
use Rattle.core_format.proofs.RangeLemmas.{AreRanges-insert, fits_behind_all, insert-last}
use Rattle.core_format.proofs.ranges.Ranges.push.Goals as goal

pub invariant_of-self-2 : goal.invariant_of-self-2
invariant_of-self-2 c =
    let behind = subst (λ (rs : List Range). unwrap_or (option_map (λ (r : Range). r.past) (last_of_list rs)) 0 ≤ c.args.range.low) (sym c.self.view_is) c.requires.behind in
    rw (c.in_ok-push.ensures.items, ← insert-last) (AreRanges-insert _ _ c.args.range c.self.invariant c.requires.whole (fits_behind_all _ c.args.range.low c.args.range.past c.self.invariant behind))
