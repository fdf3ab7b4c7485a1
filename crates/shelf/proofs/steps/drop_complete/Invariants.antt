use Rattle.std.proofs.Common.{◌≡◌, length}
use Rattle.slab_layer.specs.Slabs.{AreSlabs, without_complete}
use Rattle.shelf.proofs.steps.drop_complete.Given as goal

abbrev pub invariant-loop-empty : goal.invariant-loop-empty
invariant-loop-empty l = record {
  cache : l.slabs.cache ≡ l.initial.slabs.cache;
  spare : l.slabs.spare ≡ l.initial.slabs.spare;
  left : without_complete l.slabs.slabs ≡ without_complete l.initial.slabs.slabs;
  sound : AreSlabs l.slabs.slabs;
}

abbrev pub decreases-loop-empty : goal.decreases-loop-empty
decreases-loop-empty l = length l.slabs.slabs
