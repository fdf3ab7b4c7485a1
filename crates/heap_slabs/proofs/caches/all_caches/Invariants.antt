use Rattle.std.proofs.Common.{◌≡◌, ◌+◌, length}
use Rattle.case_table.specs.declared.limits.TheConstants.{CLASS_COUNT}
use Rattle.heap_slabs.specs.HeapSlabs.{AreFirst}
use Rattle.heap_slabs.proofs.caches.all_caches.Given as goal

abbrev pub invariant-loop-def : goal.invariant-loop-def
invariant-loop-def l = (length l.caches.items ≡ CLASS_COUNT + l.def-index) × AreFirst (record { header = l.header; guards = l.guards }) l.caches.items
