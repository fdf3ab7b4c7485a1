use Rattle.std.proofs.Common.{[]}
use Rattle.std.proofs.lemmas.Result.{err_from_is_err_and}
use Rattle.core_format.specs.Items.{items_at}
use Rattle.core_format.specs.Segments.{own_root_at}
use Rattle.core_format.proofs.ItemsLemmas.{items_at-done, items_at-more, items_at-told}
use Rattle.core_format.proofs.read_segments.own_roots.Goals as goal

pub returns-in_err-root : goal.returns-in_err-root
returns-in_err-root c =
    let p = err_from_is_err_and c.from_residual.result c.from_residual.ensures.1 in
    rw (p.1, p.2) (items_at-told own_root_at c.args.count c.loop.counter c.loop.roots.items c.loop.reader c.in_err-root.field-0.0 (items_at own_root_at c.args.count [] c.args.reader.now) c.loop-test.true c.in_err-root.ensures c.loop.invariant)

pub loop-preserved : goal.loop-preserved
loop-preserved c =
    items_at-more own_root_at c.args.count c.loop.counter c.loop.roots.items c.push.new.self.items c.loop.reader c.own_root.new.reader c.in_ok-root.root (items_at own_root_at c.args.count [] c.args.reader.now) c.loop-test.true c.in_ok-root.ensures c.in_ok-push.ensures.items c.loop.invariant

pub returns : goal.returns
returns c = items_at-done own_root_at c.args.count c.loop.counter c.loop.roots.items c.loop.reader (items_at own_root_at c.args.count [] c.args.reader.now) c.loop-test.false c.loop.invariant
