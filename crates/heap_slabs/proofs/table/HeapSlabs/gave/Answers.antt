use Rattle.std.proofs.Common.{◌≡◌, map, refl, sym, ap, subst}
use Rattle.std.specs.Prelude.{All, length}
use Rattle.heap_slabs.specs.Standing.{StandingSlabs, with_given}
use Rattle.heap_slabs.specs.HeapSlabs.{IsOfCaches}
use Rattle.heap_slabs.proofs.ReapLemmas.{each_kept}
use Rattle.heap_slabs.proofs.StandingLemmas.{given_keeps}
use Rattle.heap_slabs.proofs.StateLemmas.{given_stands, stepped}
use Rattle.heap_slabs.proofs.table.HeapSlabs.gave.Goals as goal

listed : (c : goal.After-gave) → c.gave.new.self.slabs ≡ map (with_given c.args.address) c.self.inside.slabs.slabs
listed c = ap (λ (s : StandingSlabs). s.slabs) c.gave.ensures.value

pub returns-clause-gave : goal.returns-clause-gave
returns-clause-gave c = rw (← c.self.view_is) (λ setting state header is lives. stepped setting state _ _ _ (with_given c.args.address) is refl refl refl refl (listed c) (λ h stands. given_stands setting state c.args.address h header lives))

pub invariant_of-self : goal.invariant_of-self
invariant_of-self c = record {
  caches = c.self.invariant.caches;
  slabs = c.gave.ensures.sound;
  each = subst (All (IsOfCaches (length c.self.inside.caches.items) c.self.inside.next)) (sym (listed c))
      (each_kept (with_given c.args.address) (given_keeps c.args.address) (length c.self.inside.caches.items) c.self.inside.next c.self.inside.slabs.slabs c.self.invariant.each);
}
