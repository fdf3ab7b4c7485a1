use Rattle.std.proofs.Common.{◌≤◌}
use Rattle.memory_bench.proofs.take_and_give_back.Given as goal

abbrev pub invariant-loop-span : goal.invariant-loop-span
invariant-loop-span l = l.right ≤ l.span
