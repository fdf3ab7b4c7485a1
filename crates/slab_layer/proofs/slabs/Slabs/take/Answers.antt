use Rattle.std.proofs.Common.{set, refl}
use Rattle.slab_layer.proofs.SlabsLemmas.{IsTaken, IsTaken-from_first, slabs_of_taken, no_rounds}
use Rattle.slab_layer.proofs.slabs.Slabs.take.Goals as goal

taken : (c : goal.After-self-1) → IsTaken c.self.inside.slabs.items (set c.self.inside.slabs.items c.in_ok-index.index c.take.new.self) c.take.result
taken c =
    let place = rw c.deref.ensures.value at c.in_ok-index.ensures in
    IsTaken-from_first c.self.inside.slabs.items c.in_ok-index.index c.index_mut-slab.result.now c.take.new.self c.take.result c.self.invariant.0 place.within place.some place.first c.index_mut-slab.ensures.value c.take.ensures.taken c.take.ensures.sound

pub returns-in_err-index-clause-none : goal.returns-in_err-index-clause-none
returns-in_err-index-clause-none c =
    let none = rw c.deref.ensures.value at c.in_err-index.ensures in
    rw (c.from_residual.ensures, ← c.self.view_is) (λ e. no_rounds c.self.inside.slabs.items none, λ e. refl)

pub returns-clause-lowest : goal.returns-clause-lowest
returns-clause-lowest c = rw (← c.self.view_is) (taken c).lowest

pub returns-clause-none : goal.returns-clause-none
returns-clause-none c = rw (← c.self.view_is) (taken c).none

pub returns-clause-taken : goal.returns-clause-taken
returns-clause-taken c = rw (← c.self.view_is) (slabs_of_taken c.self.inside.cache c.self.inside.spare c.self.inside.slabs.items (set c.self.inside.slabs.items c.in_ok-index.index c.take.new.self) c.take.result (taken c))

pub returns-clause-holds : goal.returns-clause-holds
returns-clause-holds c = rw (← c.self.view_is) (taken c).holds

pub invariant_of-self : goal.invariant_of-self
invariant_of-self c = ((taken c).sound, c.self.invariant.1)

pub returns-clause-sound : goal.returns-clause-sound
returns-clause-sound c = (taken c).sound
