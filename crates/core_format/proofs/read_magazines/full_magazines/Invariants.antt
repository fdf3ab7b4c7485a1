use Rattle.std.proofs.Common.{◌≡◌, ◌-◌, ◌++◌, []}
use Rattle.core_format.specs.Items.{items_at}
use Rattle.core_format.specs.Magazines.{all_rounds, full_at}
use Rattle.core_format.proofs.read_magazines.full_magazines.Given as goal

abbrev pub invariant-loop : goal.invariant-loop
invariant-loop l = record {
  read : items_at (full_at l.table.shapes l.table.slabs l.cache l.fn.seen) (l.count - l.counter) l.full.items l.reader ≡ items_at (full_at l.table.shapes l.table.slabs l.cache l.fn.seen) l.count [] l.fn.reader;
  seen : l.seen ≡ l.fn.seen ++ all_rounds l.full.items;
}
