use Rattle.std.proofs.Common.{sym, subst}
use Rattle.script.specs.Rules.{IsOp}
use Rattle.heap_ledger.specs.Ledger.{Ledger}
use Rattle.heap_accounts.specs.Turns.{MakesWith}
use Rattle.heap_accounts.proofs.AllocLemmas.{asked_of, can_in, found_of, gives_handed, may_hand, names_cache, stand_handed}
use Rattle.heap_accounts.proofs.accounts.Accounts.commit_alloc.Goals as goal

pub chunk_request-requires : goal.chunk_request-requires
chunk_request-requires c =
    let ledger = c.self.inside.ledger in
    names_cache ledger.plan.header c.self.inside.tables.slabs c.op.result.now c.self.invariant.are.slabs.count (subst (IsOp ledger.plan.header) (sym c.op.ensures) c.in-Some.ensures.limits.op)

pub hand_chunk-reply-requires : goal.hand_chunk-reply-requires
hand_chunk-reply-requires c =
    let limits = c.in-Some.ensures.limits in
    let asked = asked_of c.self.inside.ledger c.self.inside.tables c.self.invariant c.in-Some-chunk_request.request c.in-Some.ready.now.op c.op.result.now c.in-Some-chunk_request.ensures c.op.ensures in
    let found = found_of c.self.inside.ledger c.self.inside.tables c.self.invariant c.in-Some-chunk_request.request c.in-Some-free_chunk.chunk c.chunk.result c.args.round c.in-Some-free_chunk.ensures c.chunk.ensures in
    can_in c.self.inside.ledger c.args.thread c.args.call c.in-Some.ready.now (sym c.in-Some.ensures.call) c.self.inside.tables c.self.invariant limits.thread limits.op c.in-Some-chunk_request.request asked
    c.in-Some-free_chunk.chunk found.0

pub commit-requires-clause-legal : goal.commit-requires-clause-legal
commit-requires-clause-legal c =
    let limits = c.in-Some.ensures.limits in
    let asked = asked_of c.self.inside.ledger c.self.inside.tables c.self.invariant c.in-Some-chunk_request.request c.in-Some.ready.now.op c.op.result.now c.in-Some-chunk_request.ensures c.op.ensures in
    let found = found_of c.self.inside.ledger c.self.inside.tables c.self.invariant c.in-Some-chunk_request.request c.in-Some-free_chunk.chunk c.chunk.result c.args.round c.in-Some-free_chunk.ensures c.chunk.ensures in
    may_hand c.self.inside.ledger c.args.thread c.args.call c.in-Some.ready.now (sym c.in-Some.ensures.call) c.self.inside.tables c.self.invariant limits.thread limits.op c.in-Some-chunk_request.request asked
    c.args.round c.in-Some-free_chunk.chunk found c.hand_chunk-reply.new.tables c.hand_chunk-reply.result c.hand_chunk-reply.ensures

pub invariant_of-self : goal.invariant_of-self
invariant_of-self c =
    let limits = c.in-Some.ensures.limits in
    let asked = asked_of c.self.inside.ledger c.self.inside.tables c.self.invariant c.in-Some-chunk_request.request c.in-Some.ready.now.op c.op.result.now c.in-Some-chunk_request.ensures c.op.ensures in
    let found = found_of c.self.inside.ledger c.self.inside.tables c.self.invariant c.in-Some-chunk_request.request c.in-Some-free_chunk.chunk c.chunk.result c.args.round c.in-Some-free_chunk.ensures c.chunk.ensures in
    stand_handed c.self.inside.ledger c.args.thread c.args.call c.in-Some.ready.now (sym c.in-Some.ensures.call) c.self.inside.tables c.self.invariant limits.thread limits.op c.in-Some-chunk_request.request asked
    c.args.round c.in-Some-free_chunk.chunk found c.hand_chunk-reply.new.tables c.hand_chunk-reply.result c.hand_chunk-reply.ensures c.commit.new.self c.commit.ensures

pub returns : goal.returns
returns c =
    let limits = c.in-Some.ensures.limits in
    let asked = asked_of c.self.inside.ledger c.self.inside.tables c.self.invariant c.in-Some-chunk_request.request c.in-Some.ready.now.op c.op.result.now c.in-Some-chunk_request.ensures c.op.ensures in
    let found = found_of c.self.inside.ledger c.self.inside.tables c.self.invariant c.in-Some-chunk_request.request c.in-Some-free_chunk.chunk c.chunk.result c.args.round c.in-Some-free_chunk.ensures c.chunk.ensures in
    subst (λ (l : Ledger). MakesWith l c.commit.new.self c.args.thread c.args.call c.args.round c.hand_chunk-reply.result) c.self.view_is
    (gives_handed c.self.inside.ledger c.args.thread c.args.call c.in-Some.ready.now (sym c.in-Some.ensures.call) c.self.inside.tables c.self.invariant limits.thread limits.op c.in-Some-chunk_request.request asked
    c.args.round c.in-Some-free_chunk.chunk found c.hand_chunk-reply.new.tables c.hand_chunk-reply.result c.hand_chunk-reply.ensures c.commit.new.self c.commit.ensures)
