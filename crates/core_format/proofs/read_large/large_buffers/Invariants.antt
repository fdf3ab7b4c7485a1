use Rattle.std.proofs.Common.{◌≡◌, ◌-◌, []}
use Rattle.core_format.specs.Items.{items_at}
use Rattle.core_format.specs.Slabs.{large_item_at}
use Rattle.core_format.proofs.read_large.large_buffers.Given as goal

abbrev pub invariant-loop : goal.invariant-loop
invariant-loop l = items_at (large_item_at l.header l.table.shapes l.table.slabs) (l.header.large - l.counter) l.large l.reader ≡ items_at (large_item_at l.header l.table.shapes l.table.slabs) l.header.large [] l.fn.reader
