use Rattle.std.proofs.Common.{◌≡◌, map, take}
use Rattle.script.specs.Plan.{turn_of}
use Rattle.plain_heap.specs.Calls.{calls_of}
use Rattle.heap_ledger.proofs.queue.Queue.of_thread.Given as goal

abbrev pub invariant-loop-step : goal.invariant-loop-step
invariant-loop-step l = l.calls.items ≡ calls_of l.thread (map turn_of (take l.step-index l.steps))
