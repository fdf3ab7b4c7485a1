-- How the calls that are left are made, one after another.
use Rattle.std.proofs.Common.{◌≡◌, ℕ, List, [], ◌∷◌, ◌++◌, Bool, Some, None, refl, sym, ◌∙◌, subst}
use Rattle.std.specs.Prelude.{option_map}
use Rattle.script.specs.declared.operation.Op.{Op}
use Rattle.script.specs.Plan.{Call}
use Rattle.plain_heap.specs.declared.reply.Reply.{Reply}
use Rattle.plain_heap.specs.Calls.{due_call}
use Rattle.heap_ledger.specs.Ledger.{Ledger}
use Rattle.heap_accounts.specs.declared.asked.Asked.{Asked}
use Rattle.heap_accounts.specs.declared.asked.Asked.TheVariants as asked
use Rattle.heap_accounts.specs.declared.due.Due.{Due}
use Rattle.heap_accounts.specs.declared.freed.Freed.{Freed}
use Rattle.heap_accounts.specs.declared.freed.Freed.TheVariants as freed
use Rattle.heap_accounts.specs.declared.last.Last.{Last}
use Rattle.heap_accounts.specs.declared.last.Last.TheVariants as last
use Rattle.heap_accounts.specs.declared.turn.Turn.{Turn}
use Rattle.heap_accounts.specs.declared.turn.Turn.TheVariants as turn
use Rattle.heap_accounts.specs.Asked.{asked_of}
use Rattle.heap_accounts.specs.Finish.{GoesOn, IsNextDue, MakesCall}
use Rattle.heap_accounts.specs.Kinds.{is_chunk_call, is_free, is_large, is_plain_call, is_reap_call}
use Rattle.heap_accounts.specs.Turns.{TakesFree, TakesLast, TakesReap, TakesTurn, Waits}
use Rattle.heap_accounts.proofs.FinishLemmas.{IsDueAs, IsDueOf, asked_is_due, free_makes, goes_on, last_makes, reap_makes, turn_makes}
use Rattle.heap_books.specs.Finish.{AreStepsTo, MakesAsked, MakesCallsLeft, MakesNext}

-- ---- one call

-- where a call of the kind is due, the commit of the kind does not wait
never_waits : (kind : Op → Bool) (old new : Ledger) (thread number : ℕ) → IsDueOf old thread number kind
    → Waits kind old new thread number → ⊥
never_waits kind old new thread number is waits = none_some (sym waits.none ∙ is.due)
  where
    none_some : {c : Call} → None ≡ Some c → ⊥
    none_some e = cc e

module _ (old new : Ledger) (thread number : ℕ) where
  -- what the commit of a kind gives of a call that is due
  pub turn_made : (kind : Op → Bool) (its : Turn) → IsDueOf old thread number kind
      → TakesTurn kind old new thread number its
      → (answer : Reply) × TakesTurn kind old new thread number (turn.Made answer)
  turn_made kind turn.Behind is waits = absurd (never_waits kind old new thread number is waits)
  turn_made kind (turn.Made answer) is makes = (answer, makes)

  pub free_made : (its : Freed) → IsDueOf old thread number is_free → TakesFree old new thread number its
      → MakesAsked asked.Free old new thread number
  free_made freed.Behind is waits = absurd (never_waits is_free old new thread number is waits)
  free_made (freed.Made answer round) is makes = (answer, (round, makes))

  pub last_made : (cache : ℕ) (its : Last) → IsDueOf old thread number is_chunk_call
      → TakesLast old new thread number its → MakesAsked (asked.Chunk cache) old new thread number
  last_made cache last.Behind is waits = absurd (never_waits is_chunk_call old new thread number is waits)
  last_made cache (last.Made answer fresh) is makes = (answer, (fresh, makes))

  pub reap_made : (its : Turn) → IsDueOf old thread number is_reap_call → TakesReap old new thread number its
      → MakesAsked asked.Reap old new thread number
  reap_made turn.Behind is waits = absurd (never_waits is_reap_call old new thread number is waits)
  reap_made (turn.Made answer) is makes = (answer, makes)

  -- a call that was made so was made
  asked_makes : (wanted : Asked) → IsDueAs old thread number wanted → MakesAsked wanted old new thread number
      → MakesCall old new thread
  asked_makes asked.Plain is makes = turn_makes old thread number new is_plain_call (turn.Made makes.0) is makes.1
  asked_makes asked.Large is makes = turn_makes old thread number new is_large (turn.Made makes.0) is makes.1
  asked_makes (asked.Chunk cache) is makes =
      last_makes old thread number new (last.Made makes.0 makes.1.0) is makes.1.1
  asked_makes asked.Free is makes = free_makes old thread number new (freed.Made makes.0 makes.1.0) is makes.1.1
  asked_makes asked.Reap is makes = reap_makes old thread number new (turn.Made makes.0) is makes.1

-- what a commit made of the next call, by what it asks for
pub made_as : (old new : Ledger) (due : Due) (wanted : Asked) → IsNextDue old.plan old.entries due
    → Some wanted ≡ option_map (λ (its : Call). asked_of its.op) (due_call old.plan old.entries due.thread due.call)
    → (IsDueAs old due.thread due.call wanted → MakesAsked wanted old new due.thread due.call) → MakesNext old new
made_as old new due wanted next asks makes = record {
  due = due;
  next = next;
  asked = wanted;
  asks = sym asks;
  made = makes (asked_is_due old due.thread due.call wanted (sym asks));
}

-- the next call that was made is one
pub next_makes : (old new : Ledger) (makes : MakesNext old new) → MakesCall old new makes.due.thread
next_makes old new makes =
    asked_makes old new makes.due.thread makes.due.call makes.asked
    (asked_is_due old makes.due.thread makes.due.call makes.asked makes.asks) makes.made

-- the run goes on by it
pub goes_further : (first old new : Ledger) → GoesOn first old → MakesNext old new → GoesOn first new
goes_further first old new so_far makes =
    goes_on first old new makes.due.thread so_far makes.next.lowest (next_makes old new makes)

-- ---- one call after another

pub no_steps : (ledger : Ledger) → MakesCallsLeft ledger ledger
no_steps ledger = record { steps = []; are = refl }

step_behind : (first old new : Ledger) (steps : List Ledger) → AreStepsTo old first steps → MakesNext old new
    → AreStepsTo new first (steps ++ new ∷ [])
step_behind first old new [] are makes = (subst (λ (l : Ledger). MakesNext l new) are makes, refl)
step_behind first old new (next ∷ steps) are makes = (are.0, step_behind next old new steps are.1 makes)

pub one_step_more : (first old new : Ledger) → MakesCallsLeft first old → MakesNext old new → MakesCallsLeft first new
one_step_more first old new so_far makes = record {
  steps = so_far.steps ++ new ∷ [];
  are = step_behind first old new so_far.steps so_far.are makes;
}
