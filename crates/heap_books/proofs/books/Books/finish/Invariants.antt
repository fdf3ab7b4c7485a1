use Rattle.heap_accounts.specs.Finish.{GoesOn}
use Rattle.heap_accounts.proofs.FinishLemmas.{calls_left}
use Rattle.heap_ledger.specs.Ledger.{Ledger}
use Rattle.heap_books.specs.Finish.{MakesCallsLeft}
use Rattle.heap_books.proofs.books.Books.finish.Given as goal

-- how the run went on so far
pub record WentOn (old new : Ledger) : Type 0 where
  pub goes_on : GoesOn old new
  pub by_kind : MakesCallsLeft old new

abbrev pub invariant-loop-due : goal.invariant-loop-due
invariant-loop-due l = WentOn l.fn.self l.self

abbrev pub decreases-loop-due : goal.decreases-loop-due
decreases-loop-due l = calls_left l.self
