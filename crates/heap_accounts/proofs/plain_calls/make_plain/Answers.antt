use Rattle.std.proofs.Common.{ℕ, List, sym, subst}
use Rattle.script.specs.declared.operation.Op.{Op}
use Rattle.script.specs.declared.operation.Op.TheVariants.{Store}
use Rattle.plain_heap.specs.declared.reply.Reply.TheVariants as reply
use Rattle.heap_accounts.specs.Plain.{MakesPlain}
use Rattle.heap_accounts.proofs.PlainLemmas.{cleared, copied, linked, loaded, nothing, nothing_zeroed, stored}
use Rattle.heap_accounts.proofs.plain_calls.make_plain.Goals as goal

pub returns-in-Copy : goal.returns-in-Copy
returns-in-Copy c =
    let old = c.args.memory.now in
    let new = c.put_slot.new.self in
    subst (λ (op : Op). MakesPlain old new c.args.thread op reply.Ok) (sym c.in-Copy.is)
    (copied old new c.args.thread c.in-Copy.to c.in-Copy.from c.slot-word.result c.slot-word.ensures c.put_slot.ensures)

pub returns-in-Clear : goal.returns-in-Clear
returns-in-Clear c =
    let old = c.args.memory.now in
    let new = c.put_slot-in-Clear.new.self in
    subst (λ (op : Op). MakesPlain old new c.args.thread op reply.Ok) (sym c.in-Clear.is) (cleared old new c.args.thread c.in-Clear.slot c.put_slot-in-Clear.ensures)

pub returns-in-Store : goal.returns-in-Store
returns-in-Store c =
    let old = c.args.memory.now in
    let new = c.store-reply.new.self in
    let word = c.slot-word-in-Store.result in
    let answer = c.store-reply.result in
    let bytes = c.as_slice.result.now in
    subst (λ (op : Op). MakesPlain old new c.args.thread op answer) (sym c.in-Store.is)
    (subst (λ (b : List ℕ). MakesPlain old new c.args.thread (Store c.in-Store.slot c.in-Store.offset b) answer) c.as_slice.ensures
    (stored old new c.args.thread c.in-Store.slot c.in-Store.offset word bytes answer c.slot-word-in-Store.ensures c.store-reply.ensures.answer c.store-reply.ensures.stored))

pub returns-in-Link : goal.returns-in-Link
returns-in-Link c =
    let old = c.args.memory.now in
    let new = c.link-reply.new.self in
    subst (λ (op : Op). MakesPlain old new c.args.thread op c.link-reply.result) (sym c.in-Link.is)
    (linked old new c.args.thread c.in-Link.slot c.in-Link.offset c.in-Link.value c.slot-word-in-Link.result c.slot-linked.result c.link-reply.result
    c.slot-word-in-Link.ensures c.slot-linked.ensures c.link-reply.ensures.answer c.link-reply.ensures.stored)

pub returns-in-Load : goal.returns-in-Load
returns-in-Load c =
    let old = c.args.memory.now in
    let new = c.load-reply.new.memory in
    subst (λ (op : Op). MakesPlain old new c.args.thread op c.load-reply.result) (sym c.in-Load.is)
    (loaded old new c.args.thread c.in-Load.to c.in-Load.slot c.in-Load.offset c.load-reply.result c.load-reply.ensures.reply c.load-reply.ensures.after)

pub returns-in_ok-reply-in-Alloc : goal.returns-in_ok-reply-in-Alloc
returns-in_ok-reply-in-Alloc c =
    let old = c.args.memory.now in
    let new = c.nothing.new.memory in
    let answer = c.in_ok-reply-in-Alloc.reply in
    subst (λ (op : Op). MakesPlain old new c.args.thread op answer) (sym c.in-Alloc.is) (nothing old new c.args.thread c.in-Alloc.slot c.in-Alloc.size answer c.in_ok-reply-in-Alloc.ensures)

pub returns-in_ok-reply-in-Zalloc : goal.returns-in_ok-reply-in-Zalloc
returns-in_ok-reply-in-Zalloc c =
    let old = c.args.memory.now in
    let new = c.nothing-in-Zalloc.new.memory in
    let answer = c.in_ok-reply-in-Zalloc.reply in
    subst (λ (op : Op). MakesPlain old new c.args.thread op answer) (sym c.in-Zalloc.is) (nothing_zeroed old new c.args.thread c.in-Zalloc.slot c.in-Zalloc.size answer c.in_ok-reply-in-Zalloc.ensures)
