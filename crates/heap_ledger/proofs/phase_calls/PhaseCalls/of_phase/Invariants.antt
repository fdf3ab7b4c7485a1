use Rattle.std.proofs.Common.{◌≡◌}
use Rattle.script.specs.Plan.{turns_of}
use Rattle.heap_ledger.specs.Schedule.{by_thread}
use Rattle.heap_ledger.proofs.phase_calls.PhaseCalls.of_phase.Given as goal

abbrev pub invariant-loop-thread : goal.invariant-loop-thread
invariant-loop-thread l = l.queues.items ≡ by_thread l.thread (turns_of l.phase)
