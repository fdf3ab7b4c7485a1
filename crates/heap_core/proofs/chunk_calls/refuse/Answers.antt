use Rattle.heap_core.proofs.LastLemmas.{from_behind, from_made}
use Rattle.heap_core.proofs.chunk_calls.refuse.Goals.{in-Made, in-Behind}
use Rattle.heap_core.proofs.chunk_calls.refuse.Goals as goal

pub returns-clause-ok : goal.returns-clause-ok
returns-clause-ok c =
    let takes = c.in_ok-reply.ensures.ok in
    elim c.match-branch-2.branch [
      | in-Made w ↦ rw w.result-is (from_made c.args.books.now c.args.thread c.args.call c.requires c.commit_last.new.self c.in_ok-reply.field-0 w.in-Made.reply w.in-Made.fresh w.in-Made.is takes)
      | in-Behind w ↦ absurd (from_behind c.args.books.now c.args.thread c.args.call c.requires c.commit_last.new.self c.in_ok-reply.field-0 w.in-Behind.is takes)
    ]
