use Rattle.heap_accounts.specs.Turns.{TakesRound}
use Rattle.heap_accounts.specs.declared.tried.Tried.{Tried}
use Rattle.std.proofs.Common.{subst, inl, inr}
use Rattle.heap_core.proofs.RoundLemmas.{hands, not_taken, not_waiting}
use Rattle.heap_core.proofs.chunk_calls.hand.Goals as goal

pub returns-in-Made : goal.returns-in-Made
returns-in-Made c = hands c.args.books.now c.args.thread c.args.call c.args.round c.requires c.commit_alloc.new.self c.in-Made.reply c.in-Made.ensures

pub returns-in-Taken : goal.returns-in-Taken
returns-in-Taken c =
    let takes = λ (t : Tried). TakesRound c.args.books.now c.commit_alloc.new.self c.args.thread c.args.call c.args.round t in
    elim c.in-Taken.is [
      | inl is ↦ not_taken c.args.books.now c.args.thread c.args.call c.args.round c.requires c.commit_alloc.new.self (subst takes is c.commit_alloc.ensures)
      | inr is ↦ not_waiting c.args.books.now c.args.thread c.args.call c.args.round c.requires c.commit_alloc.new.self (subst takes is c.commit_alloc.ensures)
    ]
