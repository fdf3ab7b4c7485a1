use Rattle.std.proofs.Common.{[]}
use Rattle.std.proofs.lemmas.Result.{err_from_is_err_and}
use Rattle.core_format.specs.Items.{items_at}
use Rattle.core_format.proofs.ItemsLemmas.{items_at-done, items_at-more, items_at-told}
use Rattle.core_format.specs.Slabs.{large_item_at}
use Rattle.core_format.proofs.read_large.large_buffers.Goals as goal

pub returns-in_err-item : goal.returns-in_err-item
returns-in_err-item c =
    let p = err_from_is_err_and c.from_residual.result c.from_residual.ensures.1 in
    rw (p.1, p.2) (items_at-told (large_item_at c.args.header.now c.args.table.now.shapes c.args.table.now.slabs) c.args.header.now.large c.loop.counter c.loop.large c.loop.reader c.in_err-item.field-0.0 (items_at (large_item_at c.args.header.now c.args.table.now.shapes c.args.table.now.slabs) c.args.header.now.large [] c.args.reader.now) c.loop-test.true c.in_err-item.ensures.read c.loop.invariant)

pub loop-preserved : goal.loop-preserved
loop-preserved c =
    items_at-more (large_item_at c.args.header.now c.args.table.now.shapes c.args.table.now.slabs) c.args.header.now.large c.loop.counter c.loop.large c.in_ok-more.more c.loop.reader c.large_item.new.reader c.in_ok-item.item (items_at (large_item_at c.args.header.now c.args.table.now.shapes c.args.table.now.slabs) c.args.header.now.large [] c.args.reader.now) c.loop-test.true c.in_ok-item.ensures.read c.in_ok-more.ensures c.loop.invariant

pub returns : goal.returns
returns c = rw c.into_vec.ensures (items_at-done (large_item_at c.args.header.now c.args.table.now.shapes c.args.table.now.slabs) c.args.header.now.large c.loop.counter c.loop.large c.loop.reader (items_at (large_item_at c.args.header.now c.args.table.now.shapes c.args.table.now.slabs) c.args.header.now.large [] c.args.reader.now) c.loop-test.false c.loop.invariant)
