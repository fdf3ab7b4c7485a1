use Rattle.std.proofs.Common.{[]}
use Rattle.std.proofs.lemmas.Result.{err_from_is_err_and}
use Rattle.core_format.specs.Items.{items_at}
use Rattle.core_format.specs.Slabs.{listed_at}
use Rattle.core_format.proofs.ItemsLemmas.{items_at-done, items_at-more, items_at-told}
use Rattle.core_format.proofs.ListLemmas.{listed_rises, none_rises}
use Rattle.core_format.proofs.read_slabs.list.Goals as goal

pub returns-in_err-chunk-clause-read : goal.returns-in_err-chunk-clause-read
returns-in_err-chunk-clause-read c =
    let p = err_from_is_err_and c.from_residual.result c.from_residual.ensures.1 in
    rw (p.1, p.2) (items_at-told (listed_at c.args.first c.args.past) c.args.count c.loop.counter c.loop.list.items c.loop.reader c.in_err-chunk.field-0.0 (items_at (listed_at c.args.first c.args.past) c.args.count [] c.args.reader.now) c.loop-test.true (rw c.deref.ensures.value at c.in_err-chunk.ensures) c.loop.invariant)

pub loop-preserved : goal.loop-preserved
loop-preserved c =
    items_at-more (listed_at c.args.first c.args.past) c.args.count c.loop.counter c.loop.list.items c.push.new.self.items c.loop.reader c.listed.new.reader c.in_ok-chunk.chunk (items_at (listed_at c.args.first c.args.past) c.args.count [] c.args.reader.now) c.loop-test.true (rw c.deref.ensures.value at c.in_ok-chunk.ensures) c.in_ok-push.ensures.items c.loop.invariant

pub returns-clause-read : goal.returns-clause-read
returns-clause-read c = items_at-done (listed_at c.args.first c.args.past) c.args.count c.loop.counter c.loop.list.items c.loop.reader (items_at (listed_at c.args.first c.args.past) c.args.count [] c.args.reader.now) c.loop-test.false c.loop.invariant

pub returns-clause-rising : goal.returns-clause-rising
returns-clause-rising c =
    listed_rises c.args.first c.args.past c.args.count [] c.loop.list.items c.args.reader.now c.loop.reader (none_rises c.args.first c.args.past)
    (items_at-done (listed_at c.args.first c.args.past) c.args.count c.loop.counter c.loop.list.items c.loop.reader (items_at (listed_at c.args.first c.args.past) c.args.count [] c.args.reader.now) c.loop-test.false c.loop.invariant)
