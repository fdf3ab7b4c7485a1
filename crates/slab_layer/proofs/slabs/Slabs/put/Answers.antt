use Rattle.std.proofs.Common.{set, sym, ap}
use Rattle.slab_layer.proofs.SlabsLemmas.{IsPut, IsPut-at, after_put-foreign, slabs_of, slabs_of_put}
use Rattle.slab_layer.proofs.slabs.Slabs.put.Goals as goal

put : (c : goal.After-self-1) → IsPut c.self.inside.slabs.items (set c.self.inside.slabs.items c.in-Some.index c.put.new.self) c.args.round c.put.result
put c =
    let place = rw (c.deref.ensures.value, c.chunk.ensures) at c.in-Some.ensures in
    let own = rw (← c.index_mut-slab.ensures.value) at (place.1 c.index_mut-slab.result.now) in
    IsPut-at c.self.inside.slabs.items c.in-Some.index c.args.round c.index_mut-slab.result.now c.put.new.self c.put.result c.self.invariant.0 place.0 c.index_mut-slab.ensures.value own c.put.ensures.missing c.put.ensures.ok c.put.ensures.refused.0 c.put.ensures.err

pub returns-in_default-clause-after : goal.returns-in_default-clause-after
returns-in_default-clause-after c =
    let foreign = rw (c.deref.ensures.value, c.chunk.ensures) at c.in_default.ensures in
    rw (← c.self.view_is) (ap (slabs_of c.self.inside.cache c.self.inside.spare) (sym (after_put-foreign c.self.inside.slabs.items c.args.round foreign)))

pub returns-clause-refused : goal.returns-clause-refused
returns-clause-refused c = rw (← c.self.view_is) (put c).refused

pub returns-clause-missing : goal.returns-clause-missing
returns-clause-missing c = rw (← c.self.view_is) (put c).missing

pub returns-clause-ok : goal.returns-clause-ok
returns-clause-ok c = rw (← c.self.view_is) (slabs_of_put c.self.inside.cache c.self.inside.spare c.self.inside.slabs.items (set c.self.inside.slabs.items c.in-Some.index c.put.new.self) c.args.round c.put.result (put c))

pub returns-clause-after : goal.returns-clause-after
returns-clause-after c = rw (← c.self.view_is) (ap (slabs_of c.self.inside.cache c.self.inside.spare) (put c).after)

pub returns-clause-holds : goal.returns-clause-holds
returns-clause-holds c = rw (← c.self.view_is) (put c).holds

pub invariant_of-self : goal.invariant_of-self
invariant_of-self c = ((put c).sound, c.self.invariant.1)

pub returns-clause-sound : goal.returns-clause-sound
returns-clause-sound c = (put c).sound
