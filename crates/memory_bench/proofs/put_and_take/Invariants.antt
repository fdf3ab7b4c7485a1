use Rattle.std.proofs.Common.{◌≤◌}
use Rattle.memory_bench.proofs.put_and_take.Given as goal

abbrev pub invariant-loop-step : goal.invariant-loop-step
invariant-loop-step l = l.right ≤ l.step
