use Rattle.std.proofs.Common.{[]}
use Rattle.std.proofs.lemmas.Result.{err_from_is_err_and}
use Rattle.core_format.specs.Items.{items_at}
use Rattle.core_format.specs.Logs.{saved_item_at}
use Rattle.core_format.proofs.ItemsLemmas.{items_at-done, items_at-more, items_at-told}
use Rattle.core_format.proofs.read_logs.saved_items.Goals as goal

pub returns-in_err-item : goal.returns-in_err-item
returns-in_err-item c =
    let p = err_from_is_err_and c.from_residual.result c.from_residual.ensures.1 in
    rw (p.1, p.2) (items_at-told (saved_item_at c.args.header.now) c.args.count c.loop.counter c.loop.saved.items c.loop.reader c.in_err-item.field-0.0 (items_at (saved_item_at c.args.header.now) c.args.count [] c.args.reader.now) c.loop-test.true (rw c.deref.ensures.value at c.in_err-item.ensures) c.loop.invariant)

pub loop-preserved : goal.loop-preserved
loop-preserved c =
    items_at-more (saved_item_at c.args.header.now) c.args.count c.loop.counter c.loop.saved.items c.push.new.self.items c.loop.reader c.saved_item.new.reader c.in_ok-item.item (items_at (saved_item_at c.args.header.now) c.args.count [] c.args.reader.now) c.loop-test.true (rw c.deref.ensures.value at c.in_ok-item.ensures) c.in_ok-push.ensures.items c.loop.invariant

pub returns : goal.returns
returns c = items_at-done (saved_item_at c.args.header.now) c.args.count c.loop.counter c.loop.saved.items c.loop.reader (items_at (saved_item_at c.args.header.now) c.args.count [] c.args.reader.now) c.loop-test.false c.loop.invariant
