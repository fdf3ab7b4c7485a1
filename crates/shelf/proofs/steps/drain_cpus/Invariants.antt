use Rattle.std.proofs.Common.{◌≡◌, ◌++◌, drop, map, take}
use Rattle.std.specs.List.{flat_map}
use Rattle.slab_layer.specs.Slabs.{after_puts}
use Rattle.magazine.specs.CpuCache.{drain_order}
use Rattle.shelf.specs.Shelf.{emptied}
use Rattle.shelf.proofs.steps.drain_cpus.Given as goal

abbrev pub invariant-loop-cpu : goal.invariant-loop-cpu
invariant-loop-cpu l = record {
  emptied : l.cpu-items ≡ map emptied (take l.cpu-index l.initial.cpu-items) ++ drop l.cpu-index l.initial.cpu-items;
  cache : l.slabs.cache ≡ l.initial.slabs.cache;
  spare : l.slabs.spare ≡ l.initial.slabs.spare;
  put : l.slabs.slabs ≡ after_puts l.initial.slabs.slabs (flat_map drain_order (take l.cpu-index l.initial.cpu-items));
}
