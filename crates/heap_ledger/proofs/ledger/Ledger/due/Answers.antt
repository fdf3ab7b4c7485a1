use Rattle.std.proofs.Common.{Option, ap, ◌∙◌, subst, sym}
use Rattle.script.specs.Plan.{Call, plan_of}
use Rattle.plain_heap.specs.Calls.{due_call, turns_made}
use Rattle.heap_ledger.specs.Ledger.{KeepsTurnLimits, Ledger}
use Rattle.heap_ledger.proofs.PlanLemmas.{due_keeps, moved_limits}
use Rattle.heap_ledger.proofs.ScheduleLemmas.{due_told}
use Rattle.heap_ledger.proofs.ledger.Ledger.due.Goals as goal

pub returns-clause-call : goal.returns-clause-call
returns-clause-call c =
    let told = due_told (plan_of c.self.inside.script) (turns_made c.self.inside.history.items) c.self.inside.schedule c.self.invariant.in_order c.args.thread c.args.call in
    c.due.ensures ∙ told ∙ ap (λ (l : Ledger). due_call l.plan l.entries c.args.thread c.args.call) c.self.view_is

pub returns-clause-limits : goal.returns-clause-limits
returns-clause-limits c =
    let told = due_told (plan_of c.self.inside.script) (turns_made c.self.inside.history.items) c.self.inside.schedule c.self.invariant.in_order c.args.thread c.args.call in
    let keeps = due_keeps (plan_of c.self.inside.script) c.self.inside.history.items c.args.thread c.args.call c.self.invariant.sound.plan in
    let here = subst (λ (o : Option Call). KeepsTurnLimits (plan_of c.self.inside.script).header c.args.thread o) (sym (c.due.ensures ∙ told)) keeps in
    moved_limits _ _ c.args.thread _ c.self.view_is here
