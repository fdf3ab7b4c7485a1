use Rattle.std.proofs.Common.{[]}
use Rattle.std.proofs.lemmas.Result.{err_from_is_err_and}
use Rattle.core_format.specs.Items.{items_at}
use Rattle.core_format.specs.Logs.{audit_item_at}
use Rattle.core_format.proofs.ItemsLemmas.{items_at-done, items_at-more, items_at-told}
use Rattle.core_format.proofs.read_logs.audits.Goals as goal

pub returns-in_err-audit : goal.returns-in_err-audit
returns-in_err-audit c =
    let p = err_from_is_err_and c.from_residual.result c.from_residual.ensures.1 in
    rw (p.1, p.2) (items_at-told (audit_item_at c.args.header.now c.args.table.now.shapes c.args.table.now.slabs) c.args.header.now.audits c.loop.counter c.loop.audits.items c.loop.reader c.in_err-audit.field-0.0 (items_at (audit_item_at c.args.header.now c.args.table.now.shapes c.args.table.now.slabs) c.args.header.now.audits [] c.args.reader.now) c.loop-test.true (rw c.deref.ensures.value at c.in_err-audit.ensures) c.loop.invariant)

pub loop-preserved : goal.loop-preserved
loop-preserved c =
    items_at-more (audit_item_at c.args.header.now c.args.table.now.shapes c.args.table.now.slabs) c.args.header.now.audits c.loop.counter c.loop.audits.items c.push.new.self.items c.loop.reader c.audit.new.reader c.in_ok-audit.audit (items_at (audit_item_at c.args.header.now c.args.table.now.shapes c.args.table.now.slabs) c.args.header.now.audits [] c.args.reader.now) c.loop-test.true (rw c.deref.ensures.value at c.in_ok-audit.ensures) c.in_ok-push.ensures.items c.loop.invariant

pub returns : goal.returns
returns c = items_at-done (audit_item_at c.args.header.now c.args.table.now.shapes c.args.table.now.slabs) c.args.header.now.audits c.loop.counter c.loop.audits.items c.loop.reader (items_at (audit_item_at c.args.header.now c.args.table.now.shapes c.args.table.now.slabs) c.args.header.now.audits [] c.args.reader.now) c.loop-test.false c.loop.invariant
