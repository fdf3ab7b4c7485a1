use Rattle.std.proofs.Common.{List, [], length, ap, sym, subst, arith}
use Rattle.plain_heap.specs.declared.entry.Entry.{Entry}
use Rattle.heap_ledger.specs.Ledger.{run_setting}
use Rattle.heap_ledger.specs.Room.{IsKept, ledger_of}
use Rattle.heap_ledger.specs.Schedule.{Schedule}
use Rattle.heap_ledger.proofs.CommitLemmas.{commit_kept, due, few, keeps, known, returned}
use Rattle.heap_ledger.proofs.RoomLemmas.{call_stands}
use Rattle.heap_ledger.proofs.ledger.Ledger.commit.Goals as goal

pub take-call-requires-clause-left : goal.take-call-requires-clause-left
take-call-requires-clause-left c =
    due c.self.inside.script c.self.inside.options c.self.inside.logging c.self.inside.schedule c.self.inside.history c.self.invariant c.args.thread c.args.self.now c.self.view_is c.requires.due

pub take-call-requires-clause-known : goal.take-call-requires-clause-known
take-call-requires-clause-known c =
    let i = c.self.inside in
    known i.script i.options i.logging i.schedule i.history c.self.invariant c.args.thread
    (due i.script i.options i.logging i.schedule i.history c.self.invariant c.args.thread c.args.self.now c.self.view_is c.requires.due)

pub take-call-requires-clause-few : goal.take-call-requires-clause-few
take-call-requires-clause-few c =
    let i = c.self.inside in
    few i.script i.options i.logging i.schedule i.history c.self.invariant c.args.thread
    (due i.script i.options i.logging i.schedule i.history c.self.invariant c.args.thread c.args.self.now c.self.view_is c.requires.due)

pub invariant_of-self : goal.invariant_of-self
invariant_of-self c =
    let i = c.self.inside in
    let legal = keeps i.script i.options i.logging i.schedule i.history c.self.invariant c.args.thread c.args.self.now [] c.take-call.result c.args.answer c.self.view_is c.take-call.ensures.call c.requires.legal in
    let stands = call_stands (run_setting (ledger_of i.script i.options i.logging i.history.items)) i.history.items (length i.history.items) c.args.thread c.take-call.result c.args.answer in
    subst (λ (s : Schedule). IsKept i.script i.options i.logging s c.enter_call.new.history) (sym c.take-call.ensures.rest)
    (commit_kept i.script i.options i.logging i.schedule i.history c.self.invariant c.args.thread [] c.take-call.result c.args.answer c.enter_call.new.history tt c.take-call.ensures.call legal c.enter_call.ensures.items
    (omega (arith, c.enter_call.ensures.spare)) (omega (arith, stands)))

pub returns : goal.returns
returns c =
    let i = c.self.inside in
    returned i.script i.options i.logging i.schedule i.history c.self.invariant c.args.thread c.args.self.now _ [] c.take-call.result c.args.answer c.self.view_is c.take-call.ensures.call
    (ap (λ (entries : List Entry). ledger_of i.script i.options i.logging entries) c.enter_call.ensures.items)
