use Rattle.std.proofs.Common.{◌≡◌, take}
use Rattle.std.specs.Prelude.{map}
use Rattle.heap_books.proofs.RangeLemmas.{range_of}
use Rattle.heap_books.proofs.logs.standing_ranges.Given as goal

abbrev pub invariant-loop-slab : goal.invariant-loop-slab
invariant-loop-slab l = l.ranges.items ≡ map range_of (take l.slab-index l.slab-items)
