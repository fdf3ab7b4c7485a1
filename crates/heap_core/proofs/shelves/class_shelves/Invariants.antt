use Rattle.std.proofs.Common.{◌≡◌, length}
use Rattle.heap_core.specs.Shelves.{AreFirstShelves}
use Rattle.heap_core.proofs.shelves.class_shelves.Given as goal

abbrev pub invariant-loop-class : goal.invariant-loop-class
invariant-loop-class l = record {
  count : length l.shelves.items ≡ l.class;
  those : AreFirstShelves (record { header = l.header; guards = l.guards }) l.shelves.items;
}
