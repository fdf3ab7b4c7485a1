use Rattle.std.proofs.Common.{◌≡◌, drop}
use Rattle.yardstick.specs.Kept.{bytes_written}
use Rattle.yardstick.proofs.bytes.byte_left.Given as goal

abbrev pub invariant-loop-write : goal.invariant-loop-write
invariant-loop-write l = bytes_written l.setting (drop l.write-index l.writes) l.at ≡ bytes_written l.setting l.writes l.at
