use Rattle.std.proofs.Common.{◌≡◌, ◌∙◌, ◌<◌, ◌++◌, ◌∷◌, [], ℕ, ◌-◌, ◌≤◌, List, map, ap, sym, subst, arith}
use Rattle.std.specs.Prelude.{All, insert}
use Rattle.umem_base.specs.Ordered.{SplitsBy, put_by}
use Rattle.umem_base.proofs.OrderedLemmas.{insert-put_by}
use Rattle.heap_ledger.specs.declared.slab_at.SlabAt.{SlabAt}
use Rattle.heap_slabs.specs.declared.numbered.Numbered.{Numbered}
use Rattle.heap_slabs.specs.declared.standing.Standing.{Standing}
use Rattle.heap_slabs.specs.Standing.{AreNumbered, AreStanding, IsApartFrom, StandingSlabs, numbered, as_slab_at}
use Rattle.heap_slabs.proofs.StandingLemmas.{numbers_more, places_more, standing_more}
use Rattle.heap_slabs.proofs.standing_slabs.StandingSlabs.add.Goals as goal

abbrev base : Standing → ℕ
base s = s.base

split : (c : goal.After-self-1) → SplitsBy (λ (s : Standing). s.base ≤ c.args.slab.base) (λ (s : Standing). c.args.slab.base < s.base) c.self.inside.slabs.items c.count_to-index.result
split c = rw c.deref.ensures.value at c.count_to-index.ensures

inserted : (c : goal.After-self-1) → c.insert.new.self.items ≡ put_by base c.self.inside.slabs.items c.args.slab
inserted c = (rw c.unwrap.ensures at c.insert.ensures.items) ∙ insert-put_by base c.self.inside.slabs.items c.count_to-index.result c.args.slab (split c)

apart : (c : goal.After-self-1) → All (IsApartFrom c.args.slab) c.self.inside.slabs.items
apart c = rw (← c.self.view_is) at c.requires.apart

placed : (c : goal.After-self-1) → c.insert-2.new.self.items ≡ map as_slab_at (put_by base c.self.inside.slabs.items c.args.slab)
placed c =
    (rw c.unwrap-2.ensures at c.insert-2.ensures.items) ∙ ap (λ (xs : List SlabAt). insert xs c.count_to-index.result c.as_slab_at.result) c.self.invariant.1
    ∙ ap (λ (x : SlabAt). insert (map as_slab_at c.self.inside.slabs.items) c.count_to-index.result x) c.as_slab_at.ensures
    ∙ places_more c.self.inside.slabs.items c.args.slab c.self.invariant.0 c.requires.sound (apart c) c.count_to-index.result (split c)

pushed : (c : goal.After-self-1) → c.push.new.self.items ≡ c.self.inside.numbers.items ++ numbered c.args.slab ∷ []
pushed c = rw c.unwrap-3.ensures at c.push.ensures.items

room : (c : goal.After-self-1) → 0 < c.self.inside.spare
room c = rw (← c.self.view_is) at c.requires.room

sound : (c : goal.After-self-1) → AreStanding c.insert.new.self.items
sound c = subst AreStanding (sym (inserted c)) (standing_more c.self.inside.slabs.items c.args.slab c.self.invariant.0 c.requires.sound (apart c))

pub invariant_of-self : goal.invariant_of-self
invariant_of-self c =
    let one = rw c.unwrap.ensures at c.insert.ensures.len in
    let two = rw c.unwrap-2.ensures at c.insert-2.ensures.len in
    let three = rw c.unwrap-3.ensures at c.push.ensures.len in (
      sound c,
      placed c ∙ ap (map as_slab_at) (sym (inserted c)),
      subst (λ (xs : List Standing). AreNumbered xs c.push.new.self.items) (sym (inserted c))
          (subst (λ (ns : List Numbered). AreNumbered (put_by base c.self.inside.slabs.items c.args.slab) ns) (sym (pushed c))
          (numbers_more c.self.inside.slabs.items c.args.slab c.self.invariant.0 c.requires.sound (apart c) c.self.inside.numbers.items c.self.invariant.2)),
      omega (arith, one, room c, c.insert.ensures.capacity, c.self.invariant.3),
      omega (arith, two, room c, c.insert-2.ensures.capacity, c.self.invariant.4),
      omega (arith, three, room c, c.push.ensures.capacity, c.self.invariant.5),
      omega (arith, one, room c, c.self.invariant.6),
    )

pub returns-clause-value : goal.returns-clause-value
returns-clause-value c =
    rw (← c.self.view_is) (ap (λ (xs : List Standing). let s : StandingSlabs = record { slabs = xs; reaped = c.self.inside.reaped.items; spare = c.self.inside.spare - 1 } in s) (inserted c))

pub returns-clause-sound : goal.returns-clause-sound
returns-clause-sound c = sound c
