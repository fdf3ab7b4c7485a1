use Rattle.std.proofs.Common.{◌≡◌, ◌-◌, []}
use Rattle.core_format.specs.Items.{items_at}
use Rattle.core_format.specs.Logs.{fail_item_at}
use Rattle.core_format.proofs.read_logs.fails.Given as goal

abbrev pub invariant-loop : goal.invariant-loop
invariant-loop l = items_at (fail_item_at l.header) (l.header.fails - l.counter) l.fails.items l.reader ≡ items_at (fail_item_at l.header) l.header.fails [] l.fn.reader
