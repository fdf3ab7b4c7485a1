use Rattle.std.proofs.Common.{sym}
use Rattle.std.proofs.lemmas.Result.{err_from_is_err_and}
use Rattle.heap_accounts.proofs.PerformLemmas.{large_enters, large_keeps, large_performs}
use Rattle.heap_accounts.proofs.large_calls.large.Goals as goal

pub returns-in_err-reply-clause-err : goal.returns-in_err-reply-clause-err
returns-in_err-reply-clause-err c =
    let p = err_from_is_err_and c.from_residual.result c.from_residual.ensures.1 in
    rw p.1 (large_keeps c.args.tables.now c.make_large.new.memory c.in_err-reply.ensures.err)

pub enter-requires : goal.enter-requires
enter-requires c =
    large_enters c.args.tables.now c.args.thread c.args.op.now c.in-Some.request (sym c.in-Some.ensures) c.make_large.new.memory c.in_ok-reply.reply c.in_ok-reply.ensures.ok c.requires

pub returns-clause-ok : goal.returns-clause-ok
returns-clause-ok c =
    large_performs c.args.tables.now c.args.thread c.args.op.now c.in-Some.request (sym c.in-Some.ensures) c.make_large.new.memory c.in_ok-reply.reply c.in_ok-reply.ensures.ok
    c.enter.new.live c.enter.new.slabs c.tables_look_at_slabs.ensures c.enter.ensures.buffers c.enter.ensures.slabs c.enter.ensures.room
