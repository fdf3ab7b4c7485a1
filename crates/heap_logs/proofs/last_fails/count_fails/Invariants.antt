use Rattle.std.proofs.Common.{◌≡◌, ◌≤◌, length, take}
use Rattle.heap_logs.specs.Fails.{fails_of}
use Rattle.heap_logs.proofs.last_fails.count_fails.Given as goal

abbrev pub invariant-loop-entry : goal.invariant-loop-entry
invariant-loop-entry l = record {
  few : l.count ≤ l.entry-index;
  exact : l.count ≡ length (fails_of l.caches (take l.entry-index l.entries));
}
