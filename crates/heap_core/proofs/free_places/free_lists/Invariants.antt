use Rattle.std.proofs.Common.{◌≡◌, map, take}
use Rattle.heap_core.specs.FreePlaces.{free_list_in}
use Rattle.heap_core.specs.Shelves.{stocks_of}
use Rattle.heap_core.proofs.free_places.free_lists.Given as goal

abbrev pub invariant-loop-slab : goal.invariant-loop-slab
invariant-loop-slab l = l.lists.items ≡ map (free_list_in (stocks_of l.shelves)) (take l.slab-index l.slabs)
