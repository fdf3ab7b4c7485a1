use Rattle.std.proofs.Common.{arith}
use Rattle.heap_view.proofs.NumbersLemmas.{numbers_more}
use Rattle.heap_view.proofs.build.put_chunks.Goals as goal

pub loop-index-preserved : goal.loop-index-preserved
loop-index-preserved c =
    numbers_more c.args.slab.now.first c.loop-index.index _ c.args.out.now.items c.loop-index.out.items _ (omega arith) c.loop-index.invariant c.in_ok-push.ensures.items
