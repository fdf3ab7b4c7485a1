use Rattle.std.proofs.Common.{◌≡◌, length}
use Rattle.std.specs.Prelude.{reverse}
use Rattle.heap_ledger.specs.Schedule.{settled}
use Rattle.heap_ledger.proofs.schedule.Schedule.settle.Given as goal

abbrev pub invariant-loop-self : goal.invariant-loop-self
invariant-loop-self l =
    settled l.self-inside.made.items l.self-inside.phase (reverse l.self-inside.later.items)
    ≡ settled l.fn.self.made l.fn.self.phase l.fn.self.later

abbrev pub decreases-loop-self : goal.decreases-loop-self
decreases-loop-self l = length l.self-inside.later.items
