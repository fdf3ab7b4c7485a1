use Rattle.std.proofs.Common.{None, ap, sym, ◌∙◌, length}
use Rattle.heap_ledger.specs.Ledger.{run_setting, run_state}
use Rattle.heap_accounts.specs.Kinds.{is_plain_call}
use Rattle.heap_books.proofs.MadeLemmas.{due_kind, made_alone, plain_act}
use Rattle.heap_books.proofs.plain_commits.commit_plain.Goals as goal

pub enter_made-requires : goal.enter_made-requires
enter_made-requires c =
    let old = c.args.accounts.now in
    let made = c.in-Made.ensures in
    let kind = due_kind is_plain_call old c.args.thread c.args.call made.call made.due in
    let act = plain_act (run_setting old) (run_state old) c.args.thread c.in-Made.field-0 made.call.op kind made.reply.reply in
    made_alone old c.commit_plain-turn.new.self c.args.journal.now c.requires c.args.thread made.call c.in-Made.field-0 act.0 _
    (ap length (c.as_slice-before.ensures.slice ∙ c.history.ensures.entries)) None made.made (sym act.1)
