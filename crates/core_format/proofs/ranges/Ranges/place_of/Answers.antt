use Rattle.std.proofs.Common.{◌≡◌, ◌∙◌, List, length, subst, sym, arith, ◌<◌}
use Rattle.core_format.specs.declared.range.Range.{Range}
use Rattle.core_format.specs.Ranges.{AreRanges, FitsBefore}
use Rattle.core_format.proofs.RangeLemmas.{IsCount, fits_last, fits_then, meets_at, none_meet_all, is_none-then_some}
use Rattle.core_format.proofs.ranges.Ranges.place_of.Goals as goal

pub returns-then-index-len-clause-none : goal.returns-then-index-len-clause-none
returns-then-index-len-clause-none c =
    let e : c.deref.result.now ≡ c.args.self.now = c.deref.ensures.value ∙ c.self.view_is in
    let count : IsCount c.deref.result.now c.args.low c.count_up_to-index.result = record { below = c.count_up_to-index.ensures.below; above = c.count_up_to-index.ensures.above } in
    let none = none_meet_all c.deref.result.now c.args.low c.args.past c.count_up_to-index.result count (omega (arith, c.deref.ensures.len)) in
    sym (rw e at none)

pub returns-then-index-len-clause-place : goal.returns-then-index-len-clause-place
returns-then-index-len-clause-place c =
    let e : c.deref.result.now ≡ c.args.self.now = c.deref.ensures.value ∙ c.self.view_is in
    let count : IsCount c.deref.result.now c.args.low c.count_up_to-index.result = record { below = c.count_up_to-index.ensures.below; above = c.count_up_to-index.ensures.above } in
    let fits = fits_last c.deref.result.now c.args.low c.args.past c.count_up_to-index.result count c.count_up_to-index.ensures.within (omega (arith, c.deref.ensures.len)) in
    subst (λ (rs : List Range). FitsBefore rs c.args.low c.args.past c.count_up_to-index.result) e fits

pub returns-clause-none : goal.returns-clause-none
returns-clause-none c =
    let e : c.deref.result.now ≡ c.args.self.now = c.deref.ensures.value ∙ c.self.view_is in
    let count : IsCount c.deref.result.now c.args.low c.count_up_to-index.result = record { below = c.count_up_to-index.ensures.below; above = c.count_up_to-index.ensures.above } in
    let apart : AreRanges c.deref.result.now = subst (λ (rs : List Range). AreRanges rs) (sym c.deref.ensures.value) c.self.invariant in
    let lt : c.count_up_to-index.result < length c.deref.result.now = omega (arith, c.deref.ensures.len, c.count_up_to-index.ensures.within) in
    let meets = meets_at c.deref.result.now c.args.low c.args.past c.count_up_to-index.result c.index-range.result.now apart count lt (rw c.deref.ensures.value c.index-range.ensures) in
    rw (c.then_some.ensures, is_none-then_some) (sym (rw e at meets))

pub returns-clause-place : goal.returns-clause-place
returns-clause-place c =
    let e : c.deref.result.now ≡ c.args.self.now = c.deref.ensures.value ∙ c.self.view_is in
    let count : IsCount c.deref.result.now c.args.low c.count_up_to-index.result = record { below = c.count_up_to-index.ensures.below; above = c.count_up_to-index.ensures.above } in
    let apart : AreRanges c.deref.result.now = subst (λ (rs : List Range). AreRanges rs) (sym c.deref.ensures.value) c.self.invariant in
    let lt : c.count_up_to-index.result < length c.deref.result.now = omega (arith, c.deref.ensures.len, c.count_up_to-index.ensures.within) in
    rw (c.then_some.ensures, ← e) (fits_then c.deref.result.now c.args.low c.args.past c.count_up_to-index.result c.index-range.result.now apart count lt (rw c.deref.ensures.value c.index-range.ensures))
