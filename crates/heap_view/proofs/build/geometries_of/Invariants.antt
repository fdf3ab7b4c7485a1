use Rattle.std.proofs.Common.{◌≡◌, map, take}
use Rattle.heap_view.specs.Layout.{item_geometry}
use Rattle.heap_view.proofs.build.geometries_of.Given as goal

abbrev pub invariant-loop-item : goal.invariant-loop-item
invariant-loop-item l = l.geometries.items ≡ map (item_geometry l.core) (take l.item-index l.item-items)
