use Rattle.std.proofs.Common.{ap, ◌∙◌}
use Rattle.script.specs.Plan.{plan_of}
use Rattle.plain_heap.specs.Calls.{number_of_calls, turns_made}
use Rattle.heap_ledger.specs.Ledger.{Ledger}
use Rattle.heap_ledger.proofs.ScheduleLemmas.{count_told}
use Rattle.heap_ledger.proofs.ledger.Ledger.calls_made.Goals as goal

pub returns : goal.returns
returns c =
    c.made_by.ensures
    ∙ count_told (plan_of c.self.inside.script) (turns_made c.self.inside.history.items) c.self.inside.schedule c.self.invariant.in_order c.args.thread
    ∙ ap (λ (l : Ledger). number_of_calls c.args.thread (turns_made l.entries)) c.self.view_is
