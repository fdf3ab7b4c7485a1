use Rattle.verify.specs.Lines.{chunk_line}
use Rattle.verify.proofs.LineLemmas.{lines_more}
use Rattle.verify.proofs.collect.put_slab.Goals as goal

pub loop-index-preserved : goal.loop-index-preserved
loop-index-preserved c =
    lines_more (chunk_line c.args.view.now c.args.slab.now) c.args.slab.now.first c.loop-index.index c.args.out.now.items c.loop-index.out.items c.put_line.new.out.items c.chunk_line.result
    c.loop-index.invariant c.in_ok-put_line.ensures c.chunk_line.ensures
