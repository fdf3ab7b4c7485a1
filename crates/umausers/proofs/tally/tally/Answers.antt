use Rattle.std.proofs.Common.{arith}
use Rattle.indexmap.specs.IndexMap.{get}
use Rattle.umausers.specs.Tally.{is_same_usage}
use Rattle.umausers.proofs.TallyLemmas.{tally_done, tally_room, tally_step}
use Rattle.umausers.proofs.tally.tally.Goals as goal

pub count_found-requires : goal.count_found-requires
count_found-requires c =
    tally_room c.args.view.now c.core-core.result.now c.buffers-buffers.result.now c.loop-buffer.buffer-index _ c.in_ok-usage.usage (get is_same_usage c.loop-buffer.sums)
    c.core-core.ensures.value c.buffers-buffers.ensures c.core-core.ensures.laid_out (omega arith) c.in_ok-usage.ensures c.loop-buffer.invariant

pub loop-buffer-preserved : goal.loop-buffer-preserved
loop-buffer-preserved c =
    tally_step c.core-core.result.now c.buffers-buffers.result.now c.loop-buffer.buffer-index _ c.in_ok-usage.usage (get is_same_usage c.loop-buffer.sums) (get is_same_usage c.count_found.new.sums)
    (omega arith) c.in_ok-usage.ensures c.loop-buffer.invariant c.in_ok-count_found.ensures

pub returns : goal.returns
returns c =
    tally_done c.args.view.now c.core-core.result.now c.buffers-buffers.result.now c.loop-buffer.buffer-index (get is_same_usage c.loop-buffer.sums)
    c.core-core.ensures.value c.buffers-buffers.ensures (omega arith) c.loop-buffer.invariant
