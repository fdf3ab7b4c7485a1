use Rattle.std.proofs.Common.{[], ap, ◌∙◌}
use Rattle.std.proofs.lemmas.Result.{err_from_is_err_and}
use Rattle.core_format.specs.Items.{items_at}
use Rattle.core_format.proofs.ItemsLemmas.{items_at-done, items_at-more, items_at-told}
use Rattle.core_format.specs.Slabs.{slab_item_at}
use Rattle.core_format.specs.SlabTable.{SlabTable}
use Rattle.core_format.proofs.read_slabs.slabs.Goals as goal

pub returns-in_err-slab-clause-read : goal.returns-in_err-slab-clause-read
returns-in_err-slab-clause-read c =
    let p = err_from_is_err_and c.from_residual.result c.from_residual.ensures.1 in
    rw (p.1, p.2) (items_at-told (slab_item_at c.args.header.now c.args.shapes.items) c.args.header.now.slabs c.loop.counter c.loop.table.slabs c.loop.reader c.in_err-slab.field-0.0 (items_at (slab_item_at c.args.header.now c.args.shapes.items) c.args.header.now.slabs [] c.args.reader.now) c.loop-test.true (rw c.loop.invariant.shapes at c.in_err-slab.ensures.read) c.loop.invariant.read)

pub loop-preserved : goal.loop-preserved
loop-preserved c = record {
  read = items_at-more (slab_item_at c.args.header.now c.args.shapes.items) c.args.header.now.slabs c.loop.counter c.loop.table.slabs c.in_ok-more.more.slabs c.loop.reader c.slab.new.reader c.in_ok-slab.slab (items_at (slab_item_at c.args.header.now c.args.shapes.items) c.args.header.now.slabs [] c.args.reader.now) c.loop-test.true (rw c.loop.invariant.shapes at c.in_ok-slab.ensures.read) (ap (λ (t : SlabTable). t.slabs) c.in_ok-more.ensures) c.loop.invariant.read;
  shapes = ap (λ (t : SlabTable). t.shapes) c.in_ok-more.ensures ∙ c.loop.invariant.shapes;
}

pub returns-clause-read : goal.returns-clause-read
returns-clause-read c = items_at-done (slab_item_at c.args.header.now c.args.shapes.items) c.args.header.now.slabs c.loop.counter c.loop.table.slabs c.loop.reader (items_at (slab_item_at c.args.header.now c.args.shapes.items) c.args.header.now.slabs [] c.args.reader.now) c.loop-test.false c.loop.invariant.read
