use Rattle.std.proofs.Common.{◌≡◌, ◌∙◌, ◌<◌, List, length, subst, sym, arith}
use Rattle.core_format.specs.declared.range.Range.{Range}
use Rattle.core_format.specs.Ranges.{AreRanges}
use Rattle.core_format.proofs.RangeLemmas.{IsCount, in_range_at, none_in_all, is_some-then_some}
use Rattle.core_format.proofs.ranges.Ranges.owner_of.Goals as goal

pub returns-then-index-len-clause-found : goal.returns-then-index-len-clause-found
returns-then-index-len-clause-found c =
    let e : c.deref.result.now ≡ c.args.self.now = c.deref.ensures.value ∙ c.self.view_is in
    let count : IsCount c.deref.result.now c.args.number c.count_up_to-index.result = record { below = c.count_up_to-index.ensures.below; above = c.count_up_to-index.ensures.above } in
    let none = none_in_all c.deref.result.now c.args.number c.count_up_to-index.result count (omega (arith, c.deref.ensures.len)) in
    sym (rw e at none)

pub returns-clause-found : goal.returns-clause-found
returns-clause-found c =
    let e : c.deref.result.now ≡ c.args.self.now = c.deref.ensures.value ∙ c.self.view_is in
    let count : IsCount c.deref.result.now c.args.number c.count_up_to-index.result = record { below = c.count_up_to-index.ensures.below; above = c.count_up_to-index.ensures.above } in
    let apart : AreRanges c.deref.result.now = subst (λ (rs : List Range). AreRanges rs) (sym c.deref.ensures.value) c.self.invariant in
    let lt : c.count_up_to-index.result < length c.deref.result.now = omega (arith, c.deref.ensures.len, c.count_up_to-index.ensures.within) in
    let found = in_range_at c.deref.result.now c.args.number c.count_up_to-index.result c.index-range.result.now apart count lt (rw c.deref.ensures.value c.index-range.ensures) in
    rw (c.then_some.ensures, is_some-then_some) (sym (rw e at found))
