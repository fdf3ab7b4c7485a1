use Rattle.std.proofs.Common.{◌≡◌, ◌∙◌, Bool, List, length, not, ap, sym, subst, arith, rules}
use Rattle.std.specs.Prelude.{filter, vec_len}
use Rattle.std.proofs.lemmas.Fn.{filter_same}
use Rattle.std.proofs.lemmas.List.{length-map}
use Rattle.heap_ledger.specs.declared.slab_at.SlabAt.{SlabAt}
use Rattle.heap_slabs.specs.declared.numbered.Numbered.{Numbered}
use Rattle.heap_slabs.specs.declared.standing.Standing.{Standing}
use Rattle.heap_slabs.specs.Standing.{AreNumbered, AreStanding, StandingSlabs, has_base, is_idle, as_slab_at}
use Rattle.heap_slabs.proofs.StandingLemmas.{bases_rise, numbers_less, standing_less}
use Rattle.heap_slabs.proofs.standing_slabs.StandingSlabs.drop_unused.Goals as goal

-- the slabs that stay
abbrev keep : Standing → Bool
keep slab = not (is_idle slab)

kept : (c : goal.After-keep_numbered) → c.retain.new.self.items ≡ filter keep c.self.inside.slabs.items
kept c = filter_same _ (λ s. not (is_idle s)) _ (λ x b f' h. search rules) c.self.inside.slabs.items c.retain.new.self.items c.retain.ensures.filtered

sound : (c : goal.After-keep_numbered) → AreStanding c.retain.new.self.items
sound c = subst AreStanding (sym (kept c)) (standing_less keep c.self.inside.slabs.items c.self.invariant.0)

pub list_unused-requires-clause-bases : goal.list_unused-requires-clause-bases
list_unused-requires-clause-bases c = rw c.deref.ensures.value (bases_rise c.self.inside.slabs.items c.self.invariant.0)

pub keep_numbered-requires : goal.keep_numbered-requires
keep_numbered-requires c =
    let left = filter_same _ (λ s. not (is_idle s)) _ (λ x b f' h. search rules) c.self.inside.slabs.items c.retain.new.self.items c.retain.ensures.filtered in
    rw (c.deref-3.ensures.value, left) (standing_less keep c.self.inside.slabs.items c.self.invariant.0)

pub invariant_of-self : goal.invariant_of-self
invariant_of-self c =
    let those = rw c.deref-2.ensures.value at c.list_places.ensures.those in
    let numbers = rw c.deref-3.ensures.value at c.keep_numbered.ensures.kept in
    let old : vec_len c.self.inside.places ≡ length c.self.inside.places.items = search rules in
    let new : vec_len c.list_places.new.places ≡ length c.list_places.new.places.items = search rules in
    let slabs : length c.self.inside.slabs.items ≡ vec_len c.self.inside.slabs = search rules in
    let left : length c.retain.new.self.items ≡ vec_len c.retain.new.self = search rules in
    let was = ap (λ (xs : List SlabAt). length xs) c.self.invariant.1 ∙ length-map c.self.inside.slabs.items as_slab_at in
    let is = ap (λ (xs : List SlabAt). length xs) those ∙ length-map c.retain.new.self.items as_slab_at in (
      sound c,
      those,
      subst (λ (ns : List Numbered). AreNumbered c.retain.new.self.items ns) (sym numbers)
          (subst (λ (xs : List Standing). AreNumbered xs (filter (λ one. has_base xs one.base) c.self.inside.numbers.items)) (sym (kept c))
          (numbers_less keep c.self.inside.slabs.items c.self.invariant.0 c.self.inside.numbers.items c.self.invariant.2)),
      omega (arith, c.retain.ensures.bound, c.retain.ensures.capacity, c.self.invariant.3),
      omega (arith, old, new, slabs, left, was, is, c.retain.ensures.bound, c.list_places.ensures.capacity, c.self.invariant.4),
      omega (arith, c.keep_numbered.ensures.fewer, c.keep_numbered.ensures.capacity, c.self.invariant.5),
      omega (arith, c.retain.ensures.bound, c.list_unused.ensures.capacity, c.self.invariant.6),
    )

pub returns-clause-left : goal.returns-clause-left
returns-clause-left c =
    rw (← c.self.view_is) (ap (λ (xs : List Standing). let s : StandingSlabs = record { slabs = xs; reaped = c.list_unused.new.unused.items; spare = c.self.inside.spare } in s) (kept c))

pub returns-clause-those : goal.returns-clause-those
returns-clause-those c = let those = rw c.deref.ensures.value at c.list_unused.ensures.those in rw (← c.self.view_is) those

pub returns-clause-sound : goal.returns-clause-sound
returns-clause-sound c = sound c
