use Rattle.std.proofs.Common.{ap, ◌∙◌, length}
use Rattle.heap_books.proofs.AllocLemmas.{round_made}
use Rattle.heap_books.proofs.chunk_commits.commit_alloc.Goals as goal

pub enter_made-requires : goal.enter_made-requires
enter_made-requires c =
    round_made c.args.accounts.now c.commit_alloc-tried.new.self c.args.journal.now c.requires c.args.thread c.args.call _
    (ap length (c.as_slice-before.ensures.slice ∙ c.history.ensures.entries)) c.in-Made.reply c.act_of_reply-act.result c.act_of_reply-act.ensures _ c.in-Made.ensures
