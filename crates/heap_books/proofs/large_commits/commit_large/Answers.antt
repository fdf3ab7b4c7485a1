use Rattle.std.proofs.Common.{ap, ◌∙◌, length, subst}
use Rattle.heap_accounts.specs.declared.turn.Turn.{Turn}
use Rattle.heap_accounts.specs.Kinds.{is_large}
use Rattle.heap_accounts.specs.Turns.{TakesTurn}
use Rattle.heap_books.proofs.AllocLemmas.{large_made}
use Rattle.heap_books.proofs.large_commits.commit_large.Goals as goal

pub enter_made-requires : goal.enter_made-requires
enter_made-requires c =
    large_made c.args.accounts.now c.commit_large.new.self c.args.journal.now c.requires c.args.thread c.args.call _
    (ap length (c.as_slice-before.ensures.slice ∙ c.history.ensures.entries)) c.in-Made.reply c.act_of_reply-act.result c.act_of_reply-act.ensures
    (subst (λ (t : Turn). TakesTurn is_large c.args.accounts.now c.commit_large.new.self c.args.thread c.args.call t) c.in-Made.is c.in_ok-turn.ensures.ok)
