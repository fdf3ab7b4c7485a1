use Rattle.std.proofs.Common.{◌≡◌, ◌-◌, []}
use Rattle.core_format.specs.Items.{items_at}
use Rattle.core_format.specs.Logs.{trans_item_at}
use Rattle.core_format.proofs.read_logs.transactions.Given as goal

abbrev pub invariant-loop : goal.invariant-loop
invariant-loop l = items_at (trans_item_at l.header) (l.header.trans - l.counter) l.trans.items l.reader ≡ items_at (trans_item_at l.header) l.header.trans [] l.fn.reader
