use Rattle.dcmd.specs.Walks.{address_line, is_of_cache}
use Rattle.dcmd.proofs.WalkLemmas.{passing_more}
use Rattle.dcmd.proofs.walks.put_chunks_of.Goals as goal

pub loop-buffer-preserved : goal.loop-buffer-preserved
loop-buffer-preserved c =
    passing_more address_line (is_of_cache c.args.cache) c.args.buffers.now c.loop-buffer.buffer-index _ c.args.out.now c.loop-buffer.out c.put_chunk_of.new.out c.loop-buffer-test.true c.loop-buffer.invariant c.in_ok-put_chunk_of.ensures
