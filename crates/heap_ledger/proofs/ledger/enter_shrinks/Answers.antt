use Rattle.std.proofs.Common.{arith}
use Rattle.heap_ledger.proofs.EntriesLemmas.{shrinks_few, shrinks_on}
use Rattle.heap_ledger.proofs.ledger.enter_shrinks.Goals as goal

pub enter-requires-clause-few : goal.enter-requires-clause-few
enter-requires-clause-few c =
    shrinks_few c.args.history.now.items c.loop-slab.history.items c.args.thread c.args.slabs.now c.loop-slab.slab-index c.loop-slab-test.true c.requires.few c.loop-slab.invariant.items

pub loop-slab-preserved : goal.loop-slab-preserved
loop-slab-preserved c = record {
  items = shrinks_on c.args.history.now.items c.loop-slab.history.items c.enter.new.history.items c.args.thread c.args.slabs.now c.loop-slab.slab-index _ c.loop-slab-test.true c.loop-slab.invariant.items c.enter.ensures.items;
  spare = omega (arith, c.enter.ensures.spare, c.loop-slab.invariant.spare);
}
