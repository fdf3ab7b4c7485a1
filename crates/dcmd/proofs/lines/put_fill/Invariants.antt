use Rattle.std.proofs.Common.{◌≡◌, ◌++◌, replicate}
use Rattle.dcmd.proofs.lines.put_fill.Given as goal

abbrev pub invariant-loop : goal.invariant-loop
invariant-loop l = l.out ≡ l.initial.out ++ replicate l.counter l.byte
