use Rattle.std.proofs.Common.{◌≡◌, ◌-◌, []}
use Rattle.core_format.specs.Items.{items_at}
use Rattle.core_format.specs.Slabs.{slab_item_at}
use Rattle.core_format.proofs.read_slabs.slabs.Given as goal

abbrev pub invariant-loop : goal.invariant-loop
invariant-loop l = record {
  read : items_at (slab_item_at l.header l.fn.shapes.items) (l.header.slabs - l.counter) l.table.slabs l.reader ≡ items_at (slab_item_at l.header l.fn.shapes.items) l.header.slabs [] l.fn.reader;
  shapes : l.table.shapes ≡ l.fn.shapes.items;
}
