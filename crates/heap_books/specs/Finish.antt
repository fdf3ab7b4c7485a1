-- How the calls that are left are made: each is the next one of the lowest thread that has one, and the commit of its
-- kind makes it.
use Rattle.std.specs.Prelude.{◌≡◌, ℕ, List, ◌∷◌, [], Option, Some, option_map}
use Rattle.plain_heap.specs.declared.reply.Reply.{Reply}
use Rattle.plain_heap.specs.Calls.{due_call}
use Rattle.heap_ledger.specs.Ledger.{Ledger}
use Rattle.heap_accounts.specs.declared.asked.Asked.{Asked}
use Rattle.heap_accounts.specs.declared.asked.Asked.TheVariants as asked
use Rattle.heap_accounts.specs.declared.due.Due.{Due}
use Rattle.heap_accounts.specs.declared.fresh.Fresh.{Fresh}
use Rattle.heap_accounts.specs.declared.freed.Freed.TheVariants as freed
use Rattle.heap_accounts.specs.declared.last.Last.TheVariants as last
use Rattle.heap_accounts.specs.declared.turn.Turn.TheVariants as turn
use Rattle.heap_accounts.specs.Asked.{asked_of}
use Rattle.heap_accounts.specs.Finish.{IsNextDue}
use Rattle.heap_accounts.specs.Kinds.{is_large, is_plain_call}
use Rattle.heap_accounts.specs.Turns.{TakesFree, TakesLast, TakesReap, TakesTurn}

-- The call was made, with some answer, by the commit of what it asks for; an allocation from a cache by what is left
-- of the cache: its free chunk that has the lowest number, else a new slab, else no space.
abbrev pub MakesAsked : Asked → Ledger → Ledger → ℕ → ℕ → Type 0
MakesAsked asked.Plain old new thread number =
    (answer : Reply) × TakesTurn is_plain_call old new thread number (turn.Made answer)
MakesAsked asked.Large old new thread number =
    (answer : Reply) × TakesTurn is_large old new thread number (turn.Made answer)
MakesAsked (asked.Chunk cache) old new thread number =
    (answer : Reply) × ((fresh : Option Fresh) × TakesLast old new thread number (last.Made answer fresh))
MakesAsked asked.Free old new thread number =
    (answer : Reply) × ((round : Option ℕ) × TakesFree old new thread number (freed.Made answer round))
MakesAsked asked.Reap old new thread number =
    (answer : Reply) × TakesReap old new thread number (turn.Made answer)

-- the next call of the lowest thread that has one was made so
pub record MakesNext (old new : Ledger) : Type 0 where
  pub due : Due
  pub next : IsNextDue old.plan old.entries due
  pub asked : Asked
  pub asks : option_map (λ its. asked_of its.op) (due_call old.plan old.entries due.thread due.call) ≡ Some asked
  pub made : MakesAsked asked old new due.thread due.call

-- from the old ledger each of these is made of the one before by one such call, and the last of them is the new one
abbrev pub AreStepsTo : Ledger → Ledger → List Ledger → Type 0
AreStepsTo new old [] = new ≡ old
AreStepsTo new old (next ∷ later) = MakesNext old next × AreStepsTo new next later

-- such calls alone, one after another, lead from the old ledger to the new one
pub record MakesCallsLeft (old new : Ledger) : Type 0 where
  pub steps : List Ledger
  pub are : AreStepsTo new old steps
