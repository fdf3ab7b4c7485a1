use Rattle.std.proofs.Common.{not, refl, ap}
use Rattle.heap_slabs.specs.Standing.{StandingSlabs, is_idle}
use Rattle.heap_slabs.proofs.ReapLemmas.{are_reaped, shrunk, table_less}
use Rattle.heap_slabs.proofs.table.HeapSlabs.drop_unused.Goals as goal

pub returns-clause-reaped : goal.returns-clause-reaped
returns-clause-reaped c = rw (← c.self.view_is) (λ setting state header is. are_reaped setting state _ c.drop_unused.new.self.reaped c.self.invariant.slabs is c.drop_unused.ensures.those c.drop_unused.ensures.in_order)

pub returns-clause-dropped : goal.returns-clause-dropped
returns-clause-dropped c =
    rw (← c.self.view_is) (λ setting state header is any. shrunk setting state _ c.drop_unused.new.self.reaped c.self.invariant.slabs is c.drop_unused.ensures.those _ refl refl (ap (λ (s : StandingSlabs). s.slabs) c.drop_unused.ensures.left))

pub invariant_of-self : goal.invariant_of-self
invariant_of-self c = table_less _ _ (λ slab. not (is_idle slab)) c.self.invariant refl refl (ap (λ (s : StandingSlabs). s.slabs) c.drop_unused.ensures.left) c.drop_unused.ensures.sound
