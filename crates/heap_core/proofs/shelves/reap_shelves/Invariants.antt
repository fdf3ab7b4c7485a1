use Rattle.std.proofs.Common.{◌≡◌, ◌++◌, drop, map, take}
use Rattle.heap_core.specs.Shelves.{reaped_shelf}
use Rattle.heap_core.proofs.shelves.reap_shelves.Given as goal

abbrev pub invariant-loop-shelf : goal.invariant-loop-shelf
invariant-loop-shelf l =
    l.shelf-items ≡ map reaped_shelf (take l.shelf-index l.initial.shelf-items) ++ drop l.shelf-index l.initial.shelf-items
