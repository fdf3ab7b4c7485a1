use Rattle.std.proofs.Common.{◌≡◌, ◌≤◌, [], length}
use Rattle.core_format.specs.PageBytes.{pages_at}
use Rattle.std.specs.Vec.Iter.{into_iter_items}
use Rattle.core_format.proofs.read_pages.pages.Given as goal

abbrev pub invariant-loop-slab : goal.invariant-loop-slab
invariant-loop-slab l = record {
  read : pages_at l.shapes l.large (into_iter_items l.slab-iterator) l.slab_pages.items l.done.items l.reader ≡ pages_at l.shapes l.large l.fn.slabs.items [] [] l.fn.reader;
  within : length l.done.items ≤ length l.large;
}
