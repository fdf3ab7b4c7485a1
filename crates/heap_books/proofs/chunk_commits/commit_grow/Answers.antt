use Rattle.std.proofs.Common.{ap, ◌∙◌, length, subst}
use Rattle.heap_accounts.specs.declared.grown.Grown.{Grown}
use Rattle.heap_accounts.specs.Turns.{TakesGrow}
use Rattle.heap_books.proofs.AllocLemmas.{grown_made}
use Rattle.heap_books.proofs.chunk_commits.commit_grow.Goals as goal

pub enter_made-requires : goal.enter_made-requires
enter_made-requires c =
    grown_made c.args.accounts.now c.commit_grow.new.self c.args.journal.now c.requires c.args.thread c.args.call _
    (ap length (c.as_slice-before.ensures.slice ∙ c.history.ensures.entries)) c.in-Made.reply c.act_of_reply-act.result c.act_of_reply-act.ensures c.in-Made.fresh
    (subst (λ (g : Grown). TakesGrow c.args.accounts.now c.commit_grow.new.self c.args.thread c.args.call g) c.in-Made.is c.in_ok-grown.ensures.ok)
