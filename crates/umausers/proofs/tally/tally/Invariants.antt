use Rattle.std.proofs.Common.{take}
use Rattle.std.specs.List.{filter_map}
use Rattle.indexmap.specs.IndexMap.{get}
use Rattle.umausers.specs.Tally.{HasSums, is_same_usage}
use Rattle.umausers.specs.Usages.{usage_of}
use Rattle.umausers.proofs.tally.tally.Given as goal

abbrev pub invariant-loop-buffer : goal.invariant-loop-buffer
invariant-loop-buffer l = HasSums (filter_map (usage_of l.core) (take l.buffer-index l.buffers)) (get is_same_usage l.sums)
