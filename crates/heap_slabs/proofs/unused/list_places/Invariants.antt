use Rattle.std.proofs.Common.{◌≡◌, ◌≤◌, map, take}
use Rattle.std.specs.Prelude.{vec_capacity}
use Rattle.heap_slabs.specs.Standing.{as_slab_at}
use Rattle.heap_slabs.proofs.unused.list_places.Given as goal

abbrev pub invariant-loop-slab : goal.invariant-loop-slab
invariant-loop-slab l = (l.places.items ≡ map as_slab_at (take l.slab-index l.slabs)) × (vec_capacity l.initial.places ≤ vec_capacity l.places)
