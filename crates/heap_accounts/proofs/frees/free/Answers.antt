use Rattle.std.proofs.Common.{sym}
use Rattle.heap_accounts.proofs.FreeLemmas.{free_done, free_refused}
use Rattle.heap_accounts.proofs.frees.free.Goals as goal

pub returns-in_default-reply : goal.returns-in_default-reply
returns-in_default-reply c =
    free_refused c.args.tables.now c.args.thread c.args.op.now c.in-Some.slot c.slot-word.result c.has_finding-finding.result c.judge-reply.result (sym c.in-Some.ensures)
    c.slot-word.ensures c.has_finding-finding.ensures c.judge-reply.ensures c.in_default-reply.not-Ok

pub returns : goal.returns
returns c =
    free_done c.args.tables.now c.args.thread c.args.op.now c.in-Some.slot c.slot-word.result c.has_finding-finding.result c.judge-reply.result (sym c.in-Some.ensures)
    c.slot-word.ensures c.has_finding-finding.ensures c.judge-reply.ensures c.give_back-round.new.tables c.put_slot.new.self c.give_back-round.result c.in-Ok.is c.tables_look_at_slabs.ensures
    c.give_back-round.ensures.after c.give_back-round.ensures.round c.give_back-round.ensures.room c.put_slot.ensures
