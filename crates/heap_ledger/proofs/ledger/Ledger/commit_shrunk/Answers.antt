use Rattle.std.proofs.Common.{List, length, ap, sym, subst, arith}
use Rattle.plain_heap.specs.declared.entry.Entry.{Entry}
use Rattle.std.proofs.lemmas.List.{length-append, length-map}
use Rattle.plain_heap.specs.declared.entry.Body.{Body}
use Rattle.plain_heap.specs.declared.entry.Body.TheVariants as body
use Rattle.heap_ledger.specs.declared.slab_at.SlabAt.{SlabAt}
use Rattle.heap_ledger.specs.Ledger.{inner_entries, run_setting, shrunk}
use Rattle.heap_ledger.specs.Room.{IsKept, ledger_of}
use Rattle.heap_ledger.specs.Schedule.{Schedule}
use Rattle.heap_ledger.proofs.CommitLemmas.{commit_kept, due, few, keeps, known, returned, shrinks_are_inner, shrinks_fit}
use Rattle.heap_ledger.proofs.EntriesLemmas.{entered_behind, inner_count}
use Rattle.heap_ledger.proofs.RoomLemmas.{shrunk_after}
use Rattle.heap_ledger.proofs.ledger.Ledger.commit_shrunk.Goals as goal

pub take-call-requires-clause-left : goal.take-call-requires-clause-left
take-call-requires-clause-left c =
    due c.self.inside.script c.self.inside.options c.self.inside.logging c.self.inside.schedule c.self.inside.history c.self.invariant c.args.thread c.args.self.now c.self.view_is c.requires.due

pub take-call-requires-clause-known : goal.take-call-requires-clause-known
take-call-requires-clause-known c =
    let i = c.self.inside in
    known i.script i.options i.logging i.schedule i.history c.self.invariant c.args.thread
    (due i.script i.options i.logging i.schedule i.history c.self.invariant c.args.thread c.args.self.now c.self.view_is c.requires.due)

pub take-call-requires-clause-few : goal.take-call-requires-clause-few
take-call-requires-clause-few c =
    let i = c.self.inside in
    few i.script i.options i.logging i.schedule i.history c.self.invariant c.args.thread
    (due i.script i.options i.logging i.schedule i.history c.self.invariant c.args.thread c.args.self.now c.self.view_is c.requires.due)

pub enter_shrinks-requires-clause-room : goal.enter_shrinks-requires-clause-room
enter_shrinks-requires-clause-room c =
    let i = c.self.inside in
    let legal = keeps i.script i.options i.logging i.schedule i.history c.self.invariant c.args.thread c.args.self.now (shrunk c.args.slabs.now) c.take-call.result c.args.answer c.self.view_is c.take-call.ensures.call c.requires.legal in
    let fit = shrinks_fit i.script i.options i.logging i.schedule i.history c.self.invariant c.args.thread c.args.slabs.now c.take-call.result c.args.answer c.take-call.ensures.call legal in
    omega (arith, fit, c.self.invariant.few)

pub enter_shrinks-requires-clause-few : goal.enter_shrinks-requires-clause-few
enter_shrinks-requires-clause-few c =
    let i = c.self.inside in
    let legal = keeps i.script i.options i.logging i.schedule i.history c.self.invariant c.args.thread c.args.self.now (shrunk c.args.slabs.now) c.take-call.result c.args.answer c.self.view_is c.take-call.ensures.call c.requires.legal in
    let fit = shrinks_fit i.script i.options i.logging i.schedule i.history c.self.invariant c.args.thread c.args.slabs.now c.take-call.result c.args.answer c.take-call.ensures.call legal in
    omega (arith, fit, c.self.invariant.few)

pub enter_call-requires-clause-room : goal.enter_call-requires-clause-room
enter_call-requires-clause-room c =
    let i = c.self.inside in
    let legal = keeps i.script i.options i.logging i.schedule i.history c.self.invariant c.args.thread c.args.self.now (shrunk c.args.slabs.now) c.take-call.result c.args.answer c.self.view_is c.take-call.ensures.call c.requires.legal in
    let fit = shrinks_fit i.script i.options i.logging i.schedule i.history c.self.invariant c.args.thread c.args.slabs.now c.take-call.result c.args.answer c.take-call.ensures.call legal in
    omega (arith, fit, c.self.invariant.few, c.enter_shrinks.ensures.spare)

pub enter_call-requires-clause-few : goal.enter_call-requires-clause-few
enter_call-requires-clause-few c =
    let i = c.self.inside in
    let legal = keeps i.script i.options i.logging i.schedule i.history c.self.invariant c.args.thread c.args.self.now (shrunk c.args.slabs.now) c.take-call.result c.args.answer c.self.view_is c.take-call.ensures.call c.requires.legal in
    let fit = shrinks_fit i.script i.options i.logging i.schedule i.history c.self.invariant c.args.thread c.args.slabs.now c.take-call.result c.args.answer c.take-call.ensures.call legal in
    omega (arith, fit, c.self.invariant.few, ap length c.enter_shrinks.ensures.items, length-append i.history.items (inner_entries (length i.history.items) c.args.thread (shrunk c.args.slabs.now)), inner_count (length i.history.items) c.args.thread (shrunk c.args.slabs.now), length-map c.args.slabs.now (λ (slab : SlabAt). body.Shrink slab.cache slab.base))

pub invariant_of-self : goal.invariant_of-self
invariant_of-self c =
    let i = c.self.inside in
    let legal = keeps i.script i.options i.logging i.schedule i.history c.self.invariant c.args.thread c.args.self.now (shrunk c.args.slabs.now) c.take-call.result c.args.answer c.self.view_is c.take-call.ensures.call c.requires.legal in
    let fit = shrinks_fit i.script i.options i.logging i.schedule i.history c.self.invariant c.args.thread c.args.slabs.now c.take-call.result c.args.answer c.take-call.ensures.call legal in
    let inner : List Body = shrunk c.args.slabs.now in
    let stands = shrunk_after (run_setting (ledger_of i.script i.options i.logging i.history.items)) c.args.slabs.now i.history.items (length i.history.items) c.args.thread c.take-call.result c.args.answer legal.legal in
    let items = entered_behind i.history.items c.enter_shrinks.new.history.items c.enter_call.new.history.items c.args.thread inner c.take-call.result c.args.answer c.enter_shrinks.ensures.items c.enter_call.ensures.items in
    let count = length-map c.args.slabs.now (λ (slab : SlabAt). body.Shrink slab.cache slab.base) in
    subst (λ (s : Schedule). IsKept i.script i.options i.logging s c.enter_call.new.history) (sym c.take-call.ensures.rest)
    (commit_kept i.script i.options i.logging i.schedule i.history c.self.invariant c.args.thread inner c.take-call.result c.args.answer c.enter_call.new.history (shrinks_are_inner c.args.slabs.now) c.take-call.ensures.call legal items
    (omega (arith, c.enter_shrinks.ensures.spare, c.enter_call.ensures.spare, count)) (omega (arith, stands, count)))

pub returns : goal.returns
returns c =
    let i = c.self.inside in
    let items = entered_behind i.history.items c.enter_shrinks.new.history.items c.enter_call.new.history.items c.args.thread (shrunk c.args.slabs.now) c.take-call.result c.args.answer c.enter_shrinks.ensures.items c.enter_call.ensures.items in
    returned i.script i.options i.logging i.schedule i.history c.self.invariant c.args.thread c.args.self.now _ (shrunk c.args.slabs.now) c.take-call.result c.args.answer c.self.view_is c.take-call.ensures.call
    (ap (λ (entries : List Entry). ledger_of i.script i.options i.logging entries) items)
