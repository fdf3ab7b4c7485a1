use Rattle.std.proofs.Common.{◌≡◌, length, reverse}
use Rattle.slab_layer.specs.Slabs.{AreSlabs, after_puts}
use Rattle.magazine.proofs.magazine.Magazine.drain_into.Given as goal

abbrev pub invariant-loop-round : goal.invariant-loop-round
invariant-loop-round l = record {
  size : l.self.size ≡ l.initial.self.size;
  cache : l.slabs.cache ≡ l.initial.slabs.cache;
  spare : l.slabs.spare ≡ l.initial.slabs.spare;
  put : after_puts l.slabs.slabs (reverse l.self.rounds) ≡ after_puts l.initial.slabs.slabs (reverse l.initial.self.rounds);
  sound : AreSlabs l.slabs.slabs;
}

abbrev pub decreases-loop-round : goal.decreases-loop-round
decreases-loop-round l = length l.self.rounds
