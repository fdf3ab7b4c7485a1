use Rattle.std.proofs.Common.{take}
use Rattle.heap_logs.specs.Fails.{fail_of_entry}
use Rattle.heap_logs.proofs.PassedLemmas.{ArePassed}
use Rattle.heap_logs.proofs.last_fails.fails_behind.Given as goal

abbrev pub invariant-loop-entry : goal.invariant-loop-entry
invariant-loop-entry l = ArePassed (fail_of_entry l.caches) (take l.entry-index l.entries) l.passed l.left l.items.items
