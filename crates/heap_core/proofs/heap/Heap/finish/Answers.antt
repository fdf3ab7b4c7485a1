use Rattle.std.proofs.Common.{subst}
use Rattle.heap_ledger.specs.Ledger.{IsLedger, Ledger}
use Rattle.heap_accounts.specs.Finish.{IsNextDue}
use Rattle.heap_core.proofs.FinishLemmas.{goes_further, less_left}
use Rattle.heap_core.proofs.heap.Heap.finish.Goals as goal

pub loop-due-smaller : goal.loop-due-smaller
loop-due-smaller c =
    let sound = subst IsLedger c.self.view_is c.self.invariant.legal in
    let next = subst (λ (l : Ledger). IsNextDue l.plan l.entries c.in-Some.due) c.self.view_is c.in-Some.ensures in
    less_left c.loop-due.self c.perform.new.self c.in-Some.due c.in_ok-perform.field-0 sound next c.in_ok-perform.ensures.ok

pub loop-due-preserved : goal.loop-due-preserved
loop-due-preserved c =
    let next = subst (λ (l : Ledger). IsNextDue l.plan l.entries c.in-Some.due) c.self.view_is c.in-Some.ensures in
    goes_further c.args.self.now c.loop-due.self c.perform.new.self c.in-Some.due c.in_ok-perform.field-0 c.loop-due.invariant next c.in_ok-perform.ensures.ok
