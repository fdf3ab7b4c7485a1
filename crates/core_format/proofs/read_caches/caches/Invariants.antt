use Rattle.std.proofs.Common.{◌≡◌, ◌-◌, [], length}
use Rattle.core_format.specs.Items.{items_at}
use Rattle.core_format.specs.Caches.{cache_item_at, shapes_of}
use Rattle.core_format.proofs.read_caches.caches.Given as goal

abbrev pub invariant-loop : goal.invariant-loop
invariant-loop l = record {
  read : items_at (cache_item_at l.header) (l.header.caches - l.counter) l.caches.items l.reader ≡ items_at (cache_item_at l.header) l.header.caches [] l.fn.reader;
  shapes : l.shapes.items ≡ shapes_of l.header l.caches.items;
  many : length l.caches.items ≡ l.counter;
}
