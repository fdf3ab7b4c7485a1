use Rattle.std.proofs.Common.{◌≤◌}
use Rattle.memory_bench.proofs.store_and_load.Given as goal

abbrev pub invariant-loop-word : goal.invariant-loop-word
invariant-loop-word l = l.right ≤ l.word
