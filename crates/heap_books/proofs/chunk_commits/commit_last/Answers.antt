use Rattle.std.proofs.Common.{ap, ◌∙◌, length, subst}
use Rattle.heap_accounts.specs.declared.last.Last.{Last}
use Rattle.heap_accounts.specs.Turns.{TakesLast}
use Rattle.heap_books.proofs.AllocLemmas.{last_made}
use Rattle.heap_books.proofs.chunk_commits.commit_last.Goals as goal

pub enter_made-requires : goal.enter_made-requires
enter_made-requires c =
    last_made c.args.accounts.now c.commit_last.new.self c.args.journal.now c.requires c.args.thread c.args.call _
    (ap length (c.as_slice-before.ensures.slice ∙ c.history.ensures.entries)) c.in-Made.reply c.act_of_reply-act.result c.act_of_reply-act.ensures c.in-Made.fresh
    (subst (λ (l : Last). TakesLast c.args.accounts.now c.commit_last.new.self c.args.thread c.args.call l) c.in-Made.is c.in_ok-last.ensures.ok)
