use Rattle.std.proofs.Common.{◌≡◌, ◌++◌, reverse, take}
use Rattle.std.specs.List.{flat_map}
use Rattle.dcmd.specs.Transactions.{trans_line}
use Rattle.dcmd.proofs.transactions.put_newest_first.Given as goal

abbrev pub invariant-loop-index : goal.invariant-loop-index
invariant-loop-index l = l.out ++ flat_map trans_line (reverse (take l.index l.log)) ≡ l.initial.out ++ flat_map trans_line (reverse l.log)
