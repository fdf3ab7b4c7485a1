use Rattle.std.proofs.Common.{◌≡◌}
use Rattle.plain_heap.specs.Bytes.{bytes_from}
use Rattle.yardstick.specs.Kept.{bytes_written}
use Rattle.yardstick.proofs.bytes.bytes_left.Given as goal

abbrev pub invariant-loop-k : goal.invariant-loop-k
invariant-loop-k l = l.bytes.items ≡ bytes_from (bytes_written l.setting l.writes) l.at l.k
