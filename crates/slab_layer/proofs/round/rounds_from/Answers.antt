use Rattle.std.proofs.Common.{◌∙◌, add-one, ap, arith, length, sym}
use Rattle.std.proofs.lemmas.List.FromFn.{length-range_with_len}
use Rattle.slab_layer.proofs.RoundsLemmas.{AreConsecutive-range, range_more}
use Rattle.slab_layer.proofs.round.rounds_from.Goals as goal

pub loop-index-preserved : goal.loop-index-preserved
loop-index-preserved c =
    let more = range_more c.args.first c.loop-index.index in
    (rw (c.push.ensures.items, c.new.ensures, c.loop-index.invariant.0, add-one) (sym more), omega (arith, c.push.ensures.spare, c.loop-index.invariant.1))

pub returns-clause-count : goal.returns-clause-count
returns-clause-count c = ap length c.loop-index.invariant.0 ∙ length-range_with_len c.args.first c.loop-index.index ∙ omega arith

pub returns-clause-rising : goal.returns-clause-rising
returns-clause-rising c = rw c.loop-index.invariant.0 (AreConsecutive-range c.args.first c.loop-index.index)
