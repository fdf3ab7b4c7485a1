use Rattle.std.proofs.Common.{◌≡◌, ◌∙◌, List, map, set, ap, sym, subst}
use Rattle.heap_slabs.specs.declared.standing.Standing.{Standing}
use Rattle.heap_slabs.specs.Standing.{AreNumbered, AreStanding, StandingSlabs, as_slab_at, one_live_more, with_taken}
use Rattle.heap_slabs.proofs.StandingLemmas.{changed_nowhere, changed_there, numbers_kept, places_kept, standing_kept, taken_keeps}
use Rattle.heap_slabs.proofs.standing_slabs.StandingSlabs.took.Goals as goal

changed : (c : goal.After-self-1) → set c.self.inside.slabs.items c.in-Some.place.slab c.one_live_more.result ≡ map (with_taken c.args.address) c.self.inside.slabs.items
changed c =
    let place = rw c.deref.ensures.value at c.in-Some.ensures in
    ap (λ (x : Standing). set c.self.inside.slabs.items c.in-Some.place.slab x) c.one_live_more.ensures
    ∙ ap (λ (x : Standing). set c.self.inside.slabs.items c.in-Some.place.slab (one_live_more x)) c.index-slab.ensures
    ∙ changed_there one_live_more c.self.inside.slabs.items c.args.address c.in-Some.place c.index-slab.result.now c.self.invariant.0 place

sound : (c : goal.After-self-1) → AreStanding (set c.self.inside.slabs.items c.in-Some.place.slab c.one_live_more.result)
sound c = subst AreStanding (sym (changed c)) (standing_kept (with_taken c.args.address) (taken_keeps c.args.address) c.self.inside.slabs.items c.self.invariant.0)

pub returns-in_default-clause-value : goal.returns-in_default-clause-value
returns-in_default-clause-value c =
    let none = rw c.deref.ensures.value at c.in_default.ensures in
    rw (← c.self.view_is) (ap (λ (xs : List Standing). let s : StandingSlabs = record { slabs = xs; reaped = c.self.inside.reaped.items; spare = c.self.inside.spare } in s) (changed_nowhere one_live_more c.self.inside.slabs.items c.args.address none))

pub returns-clause-value : goal.returns-clause-value
returns-clause-value c =
    rw (← c.self.view_is) (ap (λ (xs : List Standing). let s : StandingSlabs = record { slabs = xs; reaped = c.self.inside.reaped.items; spare = c.self.inside.spare } in s) (changed c))

pub returns-clause-sound : goal.returns-clause-sound
returns-clause-sound c = sound c

pub invariant_of-self : goal.invariant_of-self
invariant_of-self c = (
  sound c,
  c.self.invariant.1 ∙ sym (places_kept (with_taken c.args.address) (taken_keeps c.args.address) c.self.inside.slabs.items) ∙ ap (map as_slab_at) (sym (changed c)),
  subst (λ (xs : List Standing). AreNumbered xs c.self.inside.numbers.items) (sym (changed c))
      (numbers_kept (with_taken c.args.address) (taken_keeps c.args.address) c.self.inside.slabs.items c.self.inside.numbers.items c.self.invariant.2),
  c.self.invariant.3,
  c.self.invariant.4,
  c.self.invariant.5,
  c.self.invariant.6,
)
