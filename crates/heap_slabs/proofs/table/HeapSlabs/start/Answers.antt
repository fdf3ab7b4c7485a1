use Rattle.std.proofs.Common.{◌≡◌, [], length, ap, sym, subst, arith}
use Rattle.std.specs.Prelude.{All}
use Rattle.heap_slabs.specs.Standing.{AreStanding, StandingSlabs}
use Rattle.heap_slabs.specs.HeapSlabs.{IsOfCaches}
use Rattle.heap_slabs.proofs.StandingLemmas.{standing_none}
use Rattle.heap_slabs.proofs.StateLemmas.{first_sound}
use Rattle.heap_slabs.proofs.table.HeapSlabs.start.Goals as goal

none : (c : goal.After-new) → c.new.result.slabs ≡ []
none c = ap (λ (s : StandingSlabs). s.slabs) c.new.ensures

pub invariant_of-result : goal.invariant_of-result
invariant_of-result c = record {
  caches = first_sound (record { header = c.args.header.now; guards = c.args.guards }) c.in_ok-all_caches.field-0.items c.requires c.in_ok-all_caches.ensures.those;
  slabs = subst AreStanding (sym (none c)) standing_none;
  each = subst (All (IsOfCaches (length c.in_ok-all_caches.field-0.items) 0)) (sym (none c)) (λ k d lt. absurd (omega arith));
}
