use Rattle.std.proofs.Common.{refl, sym, subst}
use Rattle.plain_heap.specs.declared.reply.Reply.TheVariants as reply
use Rattle.heap_ledger.specs.Ledger.{Ledger, run_setting, run_state}
use Rattle.heap_accounts.specs.Grows.{HandsFresh}
use Rattle.heap_accounts.specs.Turns.{MakesGrownLast, MakesLeft}
use Rattle.heap_accounts.proofs.AllocLemmas.{asked_of, can_in, may_hand, stand_handed}
use Rattle.heap_accounts.proofs.GrownLemmas.{can_grow, may_grow, stand_grown}
use Rattle.heap_accounts.proofs.LastLemmas.{gives_grown_last, gives_left, gives_refused, may_refuse, stand_refused}
use Rattle.heap_accounts.proofs.accounts.Accounts.commit_last.Goals as goal

pub hand_chunk-reply-requires : goal.hand_chunk-reply-requires
hand_chunk-reply-requires c =
    let limits = c.in-Some.ensures.limits in
    let asked = asked_of c.self.inside.ledger c.self.inside.tables c.self.invariant c.in-Some-chunk_request.request c.in-Some.ready.now.op c.op.result.now c.in-Some-chunk_request.ensures c.op.ensures in
    let lowest = c.in-Some-lowest.ensures (run_setting c.self.inside.ledger) (run_state c.self.inside.ledger) c.self.invariant.legal.plan.header c.self.invariant.are.slabs c.self.invariant.are.buffers in
    can_in c.self.inside.ledger c.args.thread c.args.call c.in-Some.ready.now (sym c.in-Some.ensures.call) c.self.inside.tables c.self.invariant limits.thread limits.op c.in-Some-chunk_request.request
    asked c.in-Some-lowest.chunk lowest.free

pub commit-requires-clause-legal : goal.commit-requires-clause-legal
commit-requires-clause-legal c =
    let limits = c.in-Some.ensures.limits in
    let asked = asked_of c.self.inside.ledger c.self.inside.tables c.self.invariant c.in-Some-chunk_request.request c.in-Some.ready.now.op c.op.result.now c.in-Some-chunk_request.ensures c.op.ensures in
    let lowest = c.in-Some-lowest.ensures (run_setting c.self.inside.ledger) (run_state c.self.inside.ledger) c.self.invariant.legal.plan.header c.self.invariant.are.slabs c.self.invariant.are.buffers in
    may_hand c.self.inside.ledger c.args.thread c.args.call c.in-Some.ready.now (sym c.in-Some.ensures.call) c.self.inside.tables c.self.invariant limits.thread limits.op c.in-Some-chunk_request.request
    asked c.in-Some-lowest.chunk.number c.in-Some-lowest.chunk (lowest.free, refl) c.hand_chunk-reply.new.tables c.hand_chunk-reply.result c.hand_chunk-reply.ensures

pub invariant_of-self : goal.invariant_of-self
invariant_of-self c =
    let limits = c.in-Some.ensures.limits in
    let asked = asked_of c.self.inside.ledger c.self.inside.tables c.self.invariant c.in-Some-chunk_request.request c.in-Some.ready.now.op c.op.result.now c.in-Some-chunk_request.ensures c.op.ensures in
    let lowest = c.in-Some-lowest.ensures (run_setting c.self.inside.ledger) (run_state c.self.inside.ledger) c.self.invariant.legal.plan.header c.self.invariant.are.slabs c.self.invariant.are.buffers in
    stand_handed c.self.inside.ledger c.args.thread c.args.call c.in-Some.ready.now (sym c.in-Some.ensures.call) c.self.inside.tables c.self.invariant limits.thread limits.op c.in-Some-chunk_request.request
    asked c.in-Some-lowest.chunk.number c.in-Some-lowest.chunk (lowest.free, refl) c.hand_chunk-reply.new.tables c.hand_chunk-reply.result c.hand_chunk-reply.ensures c.commit.new.self c.commit.ensures

pub returns-in-Some-lowest-clause-ok : goal.returns-in-Some-lowest-clause-ok
returns-in-Some-lowest-clause-ok c =
    let limits = c.in-Some.ensures.limits in
    let asked = asked_of c.self.inside.ledger c.self.inside.tables c.self.invariant c.in-Some-chunk_request.request c.in-Some.ready.now.op c.op.result.now c.in-Some-chunk_request.ensures c.op.ensures in
    let lowest = c.in-Some-lowest.ensures (run_setting c.self.inside.ledger) (run_state c.self.inside.ledger) c.self.invariant.legal.plan.header c.self.invariant.are.slabs c.self.invariant.are.buffers in
    subst (λ (l : Ledger). MakesLeft l c.commit.new.self c.args.thread c.args.call c.hand_chunk-reply.result) c.self.view_is
    (gives_left c.self.inside.ledger c.args.thread c.args.call c.in-Some.ready.now (sym c.in-Some.ensures.call) c.self.inside.tables c.self.invariant limits.thread limits.op c.in-Some-chunk_request.request
    asked c.in-Some-lowest.chunk lowest c.hand_chunk-reply.new.tables c.hand_chunk-reply.result c.hand_chunk-reply.ensures c.commit.new.self c.commit.ensures)

pub hand_fresh-requires : goal.hand_fresh-requires
hand_fresh-requires c =
    let limits = c.in-Some.ensures.limits in
    let asked = asked_of c.self.inside.ledger c.self.inside.tables c.self.invariant c.in-Some-chunk_request.request c.in-Some.ready.now.op c.op.result.now c.in-Some-chunk_request.ensures c.op.ensures in
    can_grow c.self.inside.ledger c.args.thread c.args.call c.in-Some.ready.now (sym c.in-Some.ensures.call) c.self.inside.tables c.self.invariant limits.thread limits.op c.in-Some-chunk_request.request
    asked

pub commit-requires-in_default-2-clause-legal : goal.commit-requires-in_default-2-clause-legal
commit-requires-in_default-2-clause-legal c =
    let limits = c.in-Some.ensures.limits in
    let asked = asked_of c.self.inside.ledger c.self.inside.tables c.self.invariant c.in-Some-chunk_request.request c.in-Some.ready.now.op c.op.result.now c.in-Some-chunk_request.ensures c.op.ensures in
    let none = c.in_default-lowest.ensures (run_setting c.self.inside.ledger) (run_state c.self.inside.ledger) c.self.invariant.legal.plan.header c.self.invariant.are.slabs c.self.invariant.are.buffers in
    let without = subst (HandsFresh c.self.inside.tables c.hand_fresh.new.tables c.args.thread c.in-Some-chunk_request.request) c.in_default-2.is c.in_ok-reply.ensures.ok in
    may_refuse c.self.inside.ledger c.args.thread c.args.call c.in-Some.ready.now (sym c.in-Some.ensures.call) c.self.inside.tables c.self.invariant limits.thread limits.op c.in-Some-chunk_request.request
    asked none c.hand_fresh.new.tables without

pub invariant_of-self-in_default-2 : goal.invariant_of-self-in_default-2
invariant_of-self-in_default-2 c =
    let limits = c.in-Some.ensures.limits in
    let asked = asked_of c.self.inside.ledger c.self.inside.tables c.self.invariant c.in-Some-chunk_request.request c.in-Some.ready.now.op c.op.result.now c.in-Some-chunk_request.ensures c.op.ensures in
    let none = c.in_default-lowest.ensures (run_setting c.self.inside.ledger) (run_state c.self.inside.ledger) c.self.invariant.legal.plan.header c.self.invariant.are.slabs c.self.invariant.are.buffers in
    let without = subst (HandsFresh c.self.inside.tables c.hand_fresh.new.tables c.args.thread c.in-Some-chunk_request.request) c.in_default-2.is c.in_ok-reply.ensures.ok in
    stand_refused c.self.inside.ledger c.args.thread c.args.call c.in-Some.ready.now (sym c.in-Some.ensures.call) c.self.inside.tables c.self.invariant limits.thread limits.op c.in-Some-chunk_request.request
    asked none c.hand_fresh.new.tables without c.refuse.new.tables c.refuse.ensures c.commit-in_default-2.new.self c.commit-in_default-2.ensures

pub returns-in_default-2-clause-ok : goal.returns-in_default-2-clause-ok
returns-in_default-2-clause-ok c =
    let limits = c.in-Some.ensures.limits in
    let asked = asked_of c.self.inside.ledger c.self.inside.tables c.self.invariant c.in-Some-chunk_request.request c.in-Some.ready.now.op c.op.result.now c.in-Some-chunk_request.ensures c.op.ensures in
    let none = c.in_default-lowest.ensures (run_setting c.self.inside.ledger) (run_state c.self.inside.ledger) c.self.invariant.legal.plan.header c.self.invariant.are.slabs c.self.invariant.are.buffers in
    let without = subst (HandsFresh c.self.inside.tables c.hand_fresh.new.tables c.args.thread c.in-Some-chunk_request.request) c.in_default-2.is c.in_ok-reply.ensures.ok in
    subst (λ (l : Ledger). MakesLeft l c.commit-in_default-2.new.self c.args.thread c.args.call reply.NoSpace) c.self.view_is
    (gives_refused c.self.inside.ledger c.args.thread c.args.call c.in-Some.ready.now (sym c.in-Some.ensures.call) c.self.inside.tables c.self.invariant limits.thread limits.op c.in-Some-chunk_request.request
    asked none c.hand_fresh.new.tables without c.refuse.new.tables c.refuse.ensures c.commit-in_default-2.new.self c.commit-in_default-2.ensures)

pub commit_grown-requires-clause-legal : goal.commit_grown-requires-clause-legal
commit_grown-requires-clause-legal c =
    let limits = c.in-Some.ensures.limits in
    let asked = asked_of c.self.inside.ledger c.self.inside.tables c.self.invariant c.in-Some-chunk_request.request c.in-Some.ready.now.op c.op.result.now c.in-Some-chunk_request.ensures c.op.ensures in
    let hands = subst (HandsFresh c.self.inside.tables c.hand_fresh.new.tables c.args.thread c.in-Some-chunk_request.request) c.in-Some-2.is c.in_ok-reply.ensures.ok in
    may_grow c.self.inside.ledger c.args.thread c.args.call c.in-Some.ready.now (sym c.in-Some.ensures.call) c.self.inside.tables c.self.invariant limits.thread limits.op c.in-Some-chunk_request.request
    asked c.hand_fresh.new.tables c.in-Some-2.reply c.in-Some-2.fresh hands

pub invariant_of-self-2 : goal.invariant_of-self-2
invariant_of-self-2 c =
    let limits = c.in-Some.ensures.limits in
    let asked = asked_of c.self.inside.ledger c.self.inside.tables c.self.invariant c.in-Some-chunk_request.request c.in-Some.ready.now.op c.op.result.now c.in-Some-chunk_request.ensures c.op.ensures in
    let hands = subst (HandsFresh c.self.inside.tables c.hand_fresh.new.tables c.args.thread c.in-Some-chunk_request.request) c.in-Some-2.is c.in_ok-reply.ensures.ok in
    stand_grown c.self.inside.ledger c.args.thread c.args.call c.in-Some.ready.now (sym c.in-Some.ensures.call) c.self.inside.tables c.self.invariant limits.thread limits.op c.in-Some-chunk_request.request
    asked c.hand_fresh.new.tables c.in-Some-2.reply c.in-Some-2.fresh hands c.commit_grown.new.self c.commit_grown.ensures

pub returns-clause-ok : goal.returns-clause-ok
returns-clause-ok c =
    let limits = c.in-Some.ensures.limits in
    let asked = asked_of c.self.inside.ledger c.self.inside.tables c.self.invariant c.in-Some-chunk_request.request c.in-Some.ready.now.op c.op.result.now c.in-Some-chunk_request.ensures c.op.ensures in
    let none = c.in_default-lowest.ensures (run_setting c.self.inside.ledger) (run_state c.self.inside.ledger) c.self.invariant.legal.plan.header c.self.invariant.are.slabs c.self.invariant.are.buffers in
    let hands = subst (HandsFresh c.self.inside.tables c.hand_fresh.new.tables c.args.thread c.in-Some-chunk_request.request) c.in-Some-2.is c.in_ok-reply.ensures.ok in
    subst (λ (l : Ledger). MakesGrownLast l c.commit_grown.new.self c.args.thread c.args.call c.in-Some-2.reply c.in-Some-2.fresh) c.self.view_is
    (gives_grown_last c.self.inside.ledger c.args.thread c.args.call c.in-Some.ready.now (sym c.in-Some.ensures.call) c.self.inside.tables c.self.invariant limits.thread limits.op c.in-Some-chunk_request.request
    asked none c.hand_fresh.new.tables c.in-Some-2.reply c.in-Some-2.fresh hands c.commit_grown.new.self c.commit_grown.ensures)
