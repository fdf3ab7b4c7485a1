use Rattle.std.proofs.Common.{◌≡◌, ◌+◌, length}
use Rattle.case_table.specs.declared.limits.TheConstants.{CLASS_COUNT}
use Rattle.heap_core.specs.Shelves.{AreFirstShelves}
use Rattle.heap_core.proofs.shelves.first_shelves.Given as goal

abbrev pub invariant-loop-def : goal.invariant-loop-def
invariant-loop-def l = record {
  count : length l.shelves.items ≡ CLASS_COUNT + l.def-index;
  those : AreFirstShelves (record { header = l.header; guards = l.guards }) l.shelves.items;
}
