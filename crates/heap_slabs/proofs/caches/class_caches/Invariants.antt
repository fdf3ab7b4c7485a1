use Rattle.std.proofs.Common.{◌≡◌, length}
use Rattle.script.specs.declared.tree.Header.{Header}
use Rattle.heap_slabs.specs.HeapSlabs.{AreFirst}
use Rattle.heap_slabs.proofs.caches.class_caches.Given as goal

abbrev pub invariant-loop-class : goal.invariant-loop-class
invariant-loop-class l = (length l.caches.items ≡ l.class) × ((header : Header) → AreFirst (record { header = header; guards = l.guards }) l.caches.items)
