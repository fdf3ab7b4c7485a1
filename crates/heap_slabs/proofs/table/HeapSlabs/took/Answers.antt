use Rattle.std.proofs.Common.{◌≡◌, map, refl, sym, ap, subst}
use Rattle.std.specs.Prelude.{All, length}
use Rattle.heap_slabs.specs.Standing.{StandingSlabs, with_taken}
use Rattle.heap_slabs.specs.HeapSlabs.{IsOfCaches}
use Rattle.heap_slabs.proofs.ReapLemmas.{each_kept}
use Rattle.heap_slabs.proofs.StandingLemmas.{taken_keeps}
use Rattle.heap_slabs.proofs.StateLemmas.{taken_stands, stepped}
use Rattle.heap_slabs.proofs.table.HeapSlabs.took.Goals as goal

listed : (c : goal.After-took) → c.took.new.self.slabs ≡ map (with_taken c.args.address) c.self.inside.slabs.slabs
listed c = ap (λ (s : StandingSlabs). s.slabs) c.took.ensures.value

pub returns-clause-took : goal.returns-clause-took
returns-clause-took c = rw (← c.self.view_is) (λ held zeroed setting state header is free. stepped setting state _ _ _ (with_taken c.args.address) is refl refl refl refl (listed c) (λ h stands. taken_stands setting state c.args.address held zeroed h header free))

pub invariant_of-self : goal.invariant_of-self
invariant_of-self c = record {
  caches = c.self.invariant.caches;
  slabs = c.took.ensures.sound;
  each = subst (All (IsOfCaches (length c.self.inside.caches.items) c.self.inside.next)) (sym (listed c))
      (each_kept (with_taken c.args.address) (taken_keeps c.args.address) (length c.self.inside.caches.items) c.self.inside.next c.self.inside.slabs.slabs c.self.invariant.each);
}
