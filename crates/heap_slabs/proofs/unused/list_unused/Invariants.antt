use Rattle.std.proofs.Common.{◌≡◌, ◌≤◌, map, take}
use Rattle.std.specs.Prelude.{filter, vec_capacity}
use Rattle.heap_slabs.specs.Standing.{is_idle, as_slab_at}
use Rattle.heap_slabs.proofs.unused.list_unused.Given as goal

abbrev pub invariant-loop-slab : goal.invariant-loop-slab
invariant-loop-slab l = (l.unused.items ≡ map as_slab_at (filter is_idle (take l.slab-index l.slabs))) × (vec_capacity l.initial.unused ≤ vec_capacity l.unused)
