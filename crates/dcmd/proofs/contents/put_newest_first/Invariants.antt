use Rattle.std.proofs.Common.{◌≡◌, ◌++◌, reverse, take}
use Rattle.std.specs.List.{flat_map}
use Rattle.dcmd.specs.Contents.{saved_line}
use Rattle.dcmd.proofs.contents.put_newest_first.Given as goal

abbrev pub invariant-loop-index : goal.invariant-loop-index
invariant-loop-index l = l.out ++ flat_map saved_line (reverse (take l.index l.log)) ≡ l.initial.out ++ flat_map saved_line (reverse l.log)
