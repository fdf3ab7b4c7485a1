use Rattle.std.proofs.Common.{◌≡◌, length, take, sum_by}
use Rattle.heap_ledger.proofs.ledger.count_calls.Given as goal

abbrev pub invariant-loop-phase : goal.invariant-loop-phase
invariant-loop-phase l = l.count ≡ sum_by (λ phase. length phase.items) (take l.phase-index l.phases)
