use Rattle.std.proofs.Common.{◌≡◌, length, reverse}
use Rattle.slab_layer.specs.Slabs.{AreSlabs, after_puts}
use Rattle.depot.specs.Depot.{AreMagazines}
use Rattle.depot.proofs.DepotLemmas.{rounds_in}
use Rattle.depot.proofs.depot.Depot.drain_into.Given as goal

abbrev pub invariant-loop-magazine : goal.invariant-loop-magazine
invariant-loop-magazine l = record {
  size : l.self-inside.size ≡ l.initial.self-inside.size;
  magazines : AreMagazines l.self-inside.size l.self-inside.full.items l.self-inside.full.spare l.self-inside.empty.items l.self-inside.empty.spare;
  cache : l.slabs.cache ≡ l.initial.slabs.cache;
  spare : l.slabs.spare ≡ l.initial.slabs.spare;
  put : after_puts l.slabs.slabs (reverse (rounds_in l.self-inside.full.items)) ≡ after_puts l.initial.slabs.slabs (reverse (rounds_in l.initial.self-inside.full.items));
  sound : AreSlabs l.slabs.slabs;
}

abbrev pub decreases-loop-magazine : goal.decreases-loop-magazine
decreases-loop-magazine l = length l.self-inside.full.items
