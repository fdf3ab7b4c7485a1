use Rattle.std.proofs.Common.{◌≡◌, not, List, ap, ◌∙◌, arith, rules}
use Rattle.std.specs.Prelude.{insert}
use Rattle.std.proofs.lemmas.Fn.{filter_same}
use Rattle.slab_layer.specs.Slab.{Slab, clashes, slab_of}
use Rattle.slab_layer.specs.Slabs.{AreSlabs, without_clashes}
use Rattle.slab_layer.proofs.SlabsLemmas.{slabs_of, IsPlaceFor, AreSlabs-insert, AreSlabs-without_clashes, added_rounds, insert-with_slab, without_clashes-apart}
use Rattle.slab_layer.proofs.slabs.Slabs.add_slab.Goals as goal

-- the new slab, and the others that stay
abbrev new : goal.After-self-2-1 → Slab
new c = slab_of c.args.base c.args.rounds.items

abbrev others : goal.After-self-2-1 → List Slab
others c = without_clashes c.self.inside.slabs.items (new c)

kept : (c : goal.After-self-2-1) → c.retain.new.self.items ≡ others c
kept c =
    let filtered = filter_same _ (λ s. not (clashes s c.new-new.result)) _ (λ x b f' h. search rules) c.self.inside.slabs.items c.retain.new.self.items c.retain.ensures.filtered in
    rw c.new-new.ensures.value at filtered

place : (c : goal.After-self-2-1) → IsPlaceFor (others c) (new c) c.count_from_below-place.result
place c =
    let first : c.first.result ≡ (new c).first = c.first.ensures ∙ ap (λ (s : Slab). s.first) c.new-new.ensures.value in
    let at = rw (first, c.deref.ensures.value, kept c) at c.count_from_below-place.ensures in
    record {
      slabs = AreSlabs-without_clashes c.self.inside.slabs.items (new c) c.self.invariant.0;
      slab = rw c.new-new.ensures.value at c.new-new.ensures.sound;
      apart = without_clashes-apart c.self.inside.slabs.items (new c);
      place = at;
    }

inserted : (c : goal.After-self-2-1) → c.insert.new.self.items ≡ insert (others c) c.count_from_below-place.result (new c)
inserted c = rw (c.unwrap.ensures, kept c, c.new-new.ensures.value) at c.insert.ensures.items

sound : (c : goal.After-self-2-1) → AreSlabs c.insert.new.self.items
sound c = rw (inserted c) (AreSlabs-insert (others c) (new c) c.count_from_below-place.result (place c))

pub count_from_below-place-requires : goal.count_from_below-place-requires
count_from_below-place-requires c =
    let filtered = filter_same _ (λ s. not (clashes s c.new-new.result)) _ (λ x b f' h. search rules) c.self.inside.slabs.items c.retain.new.self.items c.retain.ensures.filtered in
    rw (c.deref.ensures.value, filtered) (AreSlabs-without_clashes c.self.inside.slabs.items c.new-new.result c.self.invariant.0)

pub invariant_of-self : goal.invariant_of-self
invariant_of-self c = (sound c, λ none. absurd (omega arith))

pub returns-clause-value : goal.returns-clause-value
returns-clause-value c =
    rw (← c.self.view_is) (ap (slabs_of c.self.inside.cache 0) (inserted c ∙ insert-with_slab c.self.inside.slabs.items (new c) c.count_from_below-place.result (place c)))

pub returns-clause-holds : goal.returns-clause-holds
returns-clause-holds c =
    rw (← c.self.view_is, inserted c) (added_rounds (others c) c.count_from_below-place.result (new c) (place c).place.within)

pub returns-clause-sound : goal.returns-clause-sound
returns-clause-sound c = sound c
