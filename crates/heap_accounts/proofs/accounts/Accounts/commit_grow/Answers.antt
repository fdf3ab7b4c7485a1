use Rattle.std.proofs.Common.{sym, subst}
use Rattle.script.specs.Rules.{IsOp}
use Rattle.heap_ledger.specs.Ledger.{Ledger}
use Rattle.heap_accounts.specs.Grows.{HandsFresh}
use Rattle.heap_accounts.specs.Turns.{HasNoRunFor, MakesGrown}
use Rattle.heap_accounts.proofs.AllocLemmas.{asked_of, names_cache}
use Rattle.heap_accounts.proofs.GrownLemmas.{can_grow, gives_grown, gives_no_run, may_grow, stand_grown}
use Rattle.heap_accounts.proofs.accounts.Accounts.commit_grow.Goals as goal

pub chunk_request-requires : goal.chunk_request-requires
chunk_request-requires c =
    let ledger = c.self.inside.ledger in
    names_cache ledger.plan.header c.self.inside.tables.slabs c.op.result.now c.self.invariant.are.slabs.count (subst (IsOp ledger.plan.header) (sym c.op.ensures) c.in-Some.ensures.limits.op)

pub hand_fresh-requires : goal.hand_fresh-requires
hand_fresh-requires c =
    let limits = c.in-Some.ensures.limits in
    let asked = asked_of c.self.inside.ledger c.self.inside.tables c.self.invariant c.in-Some-chunk_request.request c.in-Some.ready.now.op c.op.result.now c.in-Some-chunk_request.ensures c.op.ensures in
    can_grow c.self.inside.ledger c.args.thread c.args.call c.in-Some.ready.now (sym c.in-Some.ensures.call) c.self.inside.tables c.self.invariant limits.thread limits.op c.in-Some-chunk_request.request asked

pub returns-in_default-2-clause-ok : goal.returns-in_default-2-clause-ok
returns-in_default-2-clause-ok c =
    let limits = c.in-Some.ensures.limits in
    let asked = asked_of c.self.inside.ledger c.self.inside.tables c.self.invariant c.in-Some-chunk_request.request c.in-Some.ready.now.op c.op.result.now c.in-Some-chunk_request.ensures c.op.ensures in
    let hands = subst (HandsFresh c.self.inside.tables c.hand_fresh.new.tables c.args.thread c.in-Some-chunk_request.request) c.in_default-2.is c.in_ok-reply.ensures.ok in
    subst (λ (l : Ledger). HasNoRunFor l c.self.inside.ledger c.args.thread c.args.call) c.self.view_is
    (gives_no_run c.self.inside.ledger c.args.thread c.args.call c.in-Some.ready.now (sym c.in-Some.ensures.call) c.self.inside.tables c.self.invariant limits.thread limits.op c.in-Some-chunk_request.request asked hands.0)

pub commit_grown-requires-clause-legal : goal.commit_grown-requires-clause-legal
commit_grown-requires-clause-legal c =
    let limits = c.in-Some.ensures.limits in
    let asked = asked_of c.self.inside.ledger c.self.inside.tables c.self.invariant c.in-Some-chunk_request.request c.in-Some.ready.now.op c.op.result.now c.in-Some-chunk_request.ensures c.op.ensures in
    let hands = subst (HandsFresh c.self.inside.tables c.hand_fresh.new.tables c.args.thread c.in-Some-chunk_request.request) c.in-Some-2.is c.in_ok-reply.ensures.ok in
    may_grow c.self.inside.ledger c.args.thread c.args.call c.in-Some.ready.now (sym c.in-Some.ensures.call) c.self.inside.tables c.self.invariant limits.thread limits.op c.in-Some-chunk_request.request asked
    c.hand_fresh.new.tables c.in-Some-2.reply c.in-Some-2.fresh hands

pub invariant_of-self-2 : goal.invariant_of-self-2
invariant_of-self-2 c =
    let limits = c.in-Some.ensures.limits in
    let asked = asked_of c.self.inside.ledger c.self.inside.tables c.self.invariant c.in-Some-chunk_request.request c.in-Some.ready.now.op c.op.result.now c.in-Some-chunk_request.ensures c.op.ensures in
    let hands = subst (HandsFresh c.self.inside.tables c.hand_fresh.new.tables c.args.thread c.in-Some-chunk_request.request) c.in-Some-2.is c.in_ok-reply.ensures.ok in
    stand_grown c.self.inside.ledger c.args.thread c.args.call c.in-Some.ready.now (sym c.in-Some.ensures.call) c.self.inside.tables c.self.invariant limits.thread limits.op c.in-Some-chunk_request.request asked
    c.hand_fresh.new.tables c.in-Some-2.reply c.in-Some-2.fresh hands c.commit_grown.new.self c.commit_grown.ensures

pub returns-clause-ok : goal.returns-clause-ok
returns-clause-ok c =
    let limits = c.in-Some.ensures.limits in
    let asked = asked_of c.self.inside.ledger c.self.inside.tables c.self.invariant c.in-Some-chunk_request.request c.in-Some.ready.now.op c.op.result.now c.in-Some-chunk_request.ensures c.op.ensures in
    let hands = subst (HandsFresh c.self.inside.tables c.hand_fresh.new.tables c.args.thread c.in-Some-chunk_request.request) c.in-Some-2.is c.in_ok-reply.ensures.ok in
    subst (λ (l : Ledger). MakesGrown l c.commit_grown.new.self c.args.thread c.args.call c.in-Some-2.reply c.in-Some-2.fresh) c.self.view_is
    (gives_grown c.self.inside.ledger c.args.thread c.args.call c.in-Some.ready.now (sym c.in-Some.ensures.call) c.self.inside.tables c.self.invariant limits.thread limits.op c.in-Some-chunk_request.request asked
    c.hand_fresh.new.tables c.in-Some-2.reply c.in-Some-2.fresh hands c.commit_grown.new.self c.commit_grown.ensures)
