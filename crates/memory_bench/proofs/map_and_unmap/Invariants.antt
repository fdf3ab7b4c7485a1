use Rattle.std.proofs.Common.{◌≤◌}
use Rattle.memory_bench.proofs.map_and_unmap.Given as goal

abbrev pub invariant-loop-time : goal.invariant-loop-time
invariant-loop-time l = l.right ≤ l._time
