use Rattle.heap_accounts.specs.Finish.{GoesOn}
use Rattle.heap_accounts.proofs.FinishLemmas.{calls_left}
use Rattle.heap_core.proofs.heap.Heap.finish.Given as goal

abbrev pub invariant-loop-due : goal.invariant-loop-due
invariant-loop-due l = GoesOn l.fn.self l.self

abbrev pub decreases-loop-due : goal.decreases-loop-due
decreases-loop-due l = calls_left l.self
