use Rattle.std.proofs.Common.{◌≡◌, map, replicate, take}
use Rattle.script.specs.Plan.{turns_of}
use Rattle.heap_ledger.specs.Schedule.{by_thread}
use Rattle.heap_ledger.proofs.schedule.Schedule.start.Given as goal

abbrev pub invariant-loop-thread : goal.invariant-loop-thread
invariant-loop-thread l = l.made.items ≡ replicate l._thread 0

abbrev pub invariant-loop-phase : goal.invariant-loop-phase
invariant-loop-phase l = record {
  made : l.made.items ≡ replicate l.threads 0;
  later : l.later.items ≡ map (λ phase. by_thread l.threads (turns_of phase)) (take l.phase-index l.phases);
}
