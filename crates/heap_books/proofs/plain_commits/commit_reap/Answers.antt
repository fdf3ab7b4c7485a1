use Rattle.std.proofs.Common.{None, ap, sym, ◌∙◌, length}
use Rattle.plain_heap.specs.declared.reply.Reply.TheVariants.{Ok}
use Rattle.heap_ledger.specs.Ledger.{run_setting, shrunk}
use Rattle.heap_accounts.specs.Kinds.{is_reap_call}
use Rattle.heap_books.proofs.JournalLemmas.{run_behind}
use Rattle.heap_books.proofs.MadeLemmas.{due_kind, made_shrunk, reap_act}
use Rattle.heap_books.proofs.plain_commits.commit_reap.Goals as goal

pub enter_made-requires : goal.enter_made-requires
enter_made-requires c =
    let old = c.args.accounts.now in
    let made = c.in-Made.ensures in
    let kind = due_kind is_reap_call old c.args.thread c.args.call made.call made.due in
    let act = reap_act (run_setting old) (run_behind old c.args.thread (shrunk made.slabs)) c.args.thread Ok made.call.op kind in
    made_shrunk old c.commit_reap-turn.new.self c.args.journal.now c.requires c.args.thread made.call Ok act.0 _
    (ap length (c.as_slice-before.ensures.slice ∙ c.history.ensures.entries)) None made.slabs made.made (sym act.1)
