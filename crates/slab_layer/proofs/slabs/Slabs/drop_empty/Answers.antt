use Rattle.std.proofs.Common.{◌≡◌, ◌<◌, length, ap, ◌∙◌, arith}
use Rattle.slab_layer.specs.Slabs.{AreSlabs, without_slab_at}
use Rattle.slab_layer.proofs.SlabsLemmas.{slabs_of, AreSlabs-remove, remove-without_slab_at, dropped_rounds}
use Rattle.slab_layer.proofs.slabs.Slabs.drop_empty.Goals as goal

within : (c : goal.After-into_empty) → c.in_ok-index.index < length c.self.inside.slabs.items
within c = (rw c.deref.ensures.value at c.in_ok-index.ensures).0

sound : (c : goal.After-into_empty) → AreSlabs c.remove-slab.new.self.items
sound c = rw c.remove-slab.ensures.items (AreSlabs-remove c.self.inside.slabs.items c.in_ok-index.index c.self.invariant.0 (within c))

dropped : (c : goal.After-into_empty) → c.remove-slab.new.self.items ≡ without_slab_at c.self.inside.slabs.items c.into_empty.result.base
dropped c =
    let gone = remove-without_slab_at c.self.inside.slabs.items c.in_ok-index.index c.remove-slab.result c.self.invariant.0 (within c) c.remove-slab.ensures.value in
    c.remove-slab.ensures.items ∙ rw (← c.into_empty.ensures.base) at gone

pub invariant_of-self : goal.invariant_of-self
invariant_of-self c = (sound c, λ some. omega arith)

pub returns-clause-dropped : goal.returns-clause-dropped
returns-clause-dropped c = rw (← c.self.view_is) (ap (slabs_of c.self.inside.cache c.self.inside.spare) (dropped c))

pub returns-clause-holds : goal.returns-clause-holds
returns-clause-holds c =
    rw (← c.self.view_is, c.into_empty.ensures.rounds, c.remove-slab.ensures.items) (dropped_rounds c.self.inside.slabs.items c.in_ok-index.index c.remove-slab.result (within c) c.remove-slab.ensures.value)

pub returns-clause-sound : goal.returns-clause-sound
returns-clause-sound c = sound c
