use Rattle.std.proofs.Common.{Option, ap, ◌∙◌, subst, sym}
use Rattle.script.specs.Plan.{Call, plan_of}
use Rattle.plain_heap.specs.Calls.{next_call, turns_made}
use Rattle.heap_ledger.specs.Ledger.{KeepsTurnLimits, Ledger}
use Rattle.heap_ledger.proofs.PlanLemmas.{moved_limits, next_limits}
use Rattle.heap_ledger.proofs.ScheduleLemmas.{first_is_next}
use Rattle.heap_ledger.proofs.ledger.Ledger.next.Goals as goal

pub returns-clause-call : goal.returns-clause-call
returns-clause-call c =
    let told = first_is_next (plan_of c.self.inside.script) (turns_made c.self.inside.history.items) c.self.inside.schedule c.self.invariant.in_order c.args.thread in
    c.next.ensures ∙ told ∙ ap (λ (l : Ledger). next_call l.plan l.entries c.args.thread) c.self.view_is

pub returns-clause-limits : goal.returns-clause-limits
returns-clause-limits c =
    let told = first_is_next (plan_of c.self.inside.script) (turns_made c.self.inside.history.items) c.self.inside.schedule c.self.invariant.in_order c.args.thread in
    let keeps = next_limits (plan_of c.self.inside.script) c.self.inside.history.items c.args.thread c.self.invariant.sound.plan in
    let here = subst (λ (o : Option Call). KeepsTurnLimits (plan_of c.self.inside.script).header c.args.thread o) (sym (c.next.ensures ∙ told)) keeps in
    moved_limits _ _ c.args.thread _ c.self.view_is here
