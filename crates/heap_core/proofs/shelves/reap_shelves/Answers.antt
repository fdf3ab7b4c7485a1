use Rattle.std.proofs.Common.{◌+◌, arith}
use Rattle.heap_core.proofs.ShelvesLemmas.{reaped_more}
use Rattle.heap_core.proofs.shelves.reap_shelves.Goals as goal

pub loop-shelf-preserved : goal.loop-shelf-preserved
loop-shelf-preserved c =
    let i = c.loop-shelf.shelf-index in
    reaped_more c.args.shelves.now c.loop-shelf.shelf-items i (i + 1) c.shelf-item.result c.reap_shelf.new.shelf c.loop-shelf.invariant (omega arith) (omega arith) c.reap_shelf.ensures
