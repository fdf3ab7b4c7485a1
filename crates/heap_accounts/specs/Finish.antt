-- How a run goes on where each call is made by the lowest thread that has a next one.
use Rattle.std.specs.Prelude.{◌≡◌, ℕ, ◌<◌, List, Option, None, Some, IsSome, ◌++◌, take, ⊤}
use Rattle.std.specs.List.{slice_get}
use Rattle.script.specs.Plan.{Call as PlannedCall, Plan}
use Rattle.plain_heap.specs.declared.entry.Body.{Body}
use Rattle.plain_heap.specs.declared.entry.Body.TheVariants.{Call, Grow, Shrink}
use Rattle.plain_heap.specs.declared.entry.Entry.{Entry}
use Rattle.plain_heap.specs.declared.reply.Reply.{Reply}
use Rattle.plain_heap.specs.Calls.{next_call, number_of_calls, turns_made}
use Rattle.heap_ledger.specs.Ledger.{AreInner, Ledger, after_commit}
use Rattle.heap_accounts.specs.declared.due.Due.{Due}

-- a thread has a next call after some entries, and no lower thread has one
pub record IsLowestNext (plan : Plan) (entries : List Entry) (thread : ℕ) : Type 0 where
  pub next : IsSome (next_call plan entries thread)
  pub lower : (other : ℕ) → other < thread → next_call plan entries other ≡ None

-- it is the next call of the lowest thread that has one
pub record IsNextDue (plan : Plan) (entries : List Entry) (due : Due) : Type 0 where
  pub within : due.thread < plan.header.threads
  pub lowest : IsLowestNext plan entries due.thread
  pub number : due.call ≡ number_of_calls due.thread (turns_made entries)

-- the call of an entry of a thread, if it is one, is that of the lowest thread that had a next one after the entries
-- before it
abbrev pub IsOfLowest : Plan → List Entry → ℕ → Body → Type 0
IsOfLowest plan before thread (Call op frames answer) = IsLowestNext plan before thread
IsOfLowest plan before thread (Grow cache base) = ⊤
IsOfLowest plan before thread (Shrink cache base) = ⊤

-- What was given is the same, and the old entries are the first of the new ones; each call behind them was that of the
-- lowest thread that had a next one.
pub record GoesOn (old new : Ledger) : Type 0 where
  pub plan : new.plan ≡ old.plan
  pub options : new.options ≡ old.options
  pub logging : new.logging ≡ old.logging
  pub added : List Entry
  pub entries : new.entries ≡ old.entries ++ added
  pub lowest : (n : ℕ) (entry : Entry) → slice_get added n ≡ Some entry
      → IsOfLowest old.plan (old.entries ++ take n added) entry.thread entry.body

-- a call of a thread was made, with what entries it has directly before its own, and nothing else was
pub record MakesCall (old new : Ledger) (thread : ℕ) : Type 0 where
  pub inner : List Body
  pub are : AreInner inner
  pub call : PlannedCall
  pub answer : Reply
  pub made : new ≡ after_commit old thread inner call answer
