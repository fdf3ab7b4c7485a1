use Rattle.std.proofs.Common.{◌≡◌, ◌-◌, []}
use Rattle.core_format.specs.Items.{items_at}
use Rattle.core_format.specs.Logs.{audit_item_at}
use Rattle.core_format.proofs.read_logs.audits.Given as goal

abbrev pub invariant-loop : goal.invariant-loop
invariant-loop l = items_at (audit_item_at l.header l.table.shapes l.table.slabs) (l.header.audits - l.counter) l.audits.items l.reader ≡ items_at (audit_item_at l.header l.table.shapes l.table.slabs) l.header.audits [] l.fn.reader
