use Rattle.std.proofs.Common.{◌≡◌, ◌-◌, []}
use Rattle.core_format.specs.Items.{items_at}
use Rattle.core_format.specs.Logs.{saved_item_at}
use Rattle.core_format.proofs.read_logs.saved_items.Given as goal

abbrev pub invariant-loop : goal.invariant-loop
invariant-loop l = items_at (saved_item_at l.header) (l.count - l.counter) l.saved.items l.reader ≡ items_at (saved_item_at l.header) l.count [] l.fn.reader
