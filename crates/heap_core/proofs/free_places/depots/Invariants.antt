use Rattle.std.proofs.Common.{◌≡◌, take}
use Rattle.heap_core.specs.Shelves.{stocks_of}
use Rattle.heap_pictures.specs.Items.{depot_items}
use Rattle.heap_core.proofs.free_places.depots.Given as goal

abbrev pub invariant-loop-shelf : goal.invariant-loop-shelf
invariant-loop-shelf l = l.items.items ≡ depot_items (stocks_of (take l.shelf-index l.shelves))
