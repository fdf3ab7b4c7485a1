-- What performing a call gives.
use Rattle.std.specs.Prelude.{◌≡◌, ◌≢◌, ℕ, true, List, None, Some, IfSome, ⊤}
use Rattle.script.specs.declared.operation.Op.{Op}
use Rattle.script.specs.Plan.{Call}
use Rattle.plain_heap.specs.declared.entry.Body.{Body}
use Rattle.plain_heap.specs.declared.reply.Reply.{Reply}
use Rattle.plain_heap.specs.declared.reply.Reply.TheVariants.{Ok}
use Rattle.plain_heap.specs.Calls.{due_call}
use Rattle.heap_ledger.specs.Ledger.{Ledger, after_commit, run_setting, run_state}
use Rattle.heap_accounts.specs.declared.turn.Turn.{Turn}
use Rattle.heap_accounts.specs.declared.turn.Turn.TheVariants.{Behind, Made}
use Rattle.heap_accounts.specs.Kinds.{is_free}
use Rattle.heap_accounts.specs.Performed.{IsPerformed}
use Rattle.heap_core.specs.Heap.{run_places}

-- the call is not the thread's next one, and nothing was made
pub record WasBehind (old new : Ledger) (thread number : ℕ) : Type 0 where
  pub none : due_call old.plan old.entries thread number ≡ None
  pub same : new ≡ old

-- the call was due; exactly the entries were added that the magazine rules decide, by what the entries before it left
pub record PerformsCall (old new : Ledger) (thread number : ℕ) (answer : Reply) : Type 0 where
  pub call : Call
  pub due : due_call old.plan old.entries thread number ≡ Some call
  pub inner : List Body
  pub performed : IsPerformed (run_setting old) (run_state old) (run_places old) thread call.op inner answer
  pub made : new ≡ after_commit old thread inner call answer

-- what performing a call gives
abbrev pub PerformsTurn : Ledger → Ledger → ℕ → ℕ → Turn → Type 0
PerformsTurn old new thread number Behind = WasBehind old new thread number
PerformsTurn old new thread number (Made answer) = PerformsCall old new thread number answer

-- ---- refused frees

-- a free, answered with anything but ok
abbrev pub IsRefusedFree : Op → Reply → Type 0
IsRefusedFree op answer = (is_free op ≡ true) × (answer ≢ Ok)

-- what lives, what stands, each byte, and where each free chunk stands are as before
pub record LeavesAll (old new : Ledger) : Type 0 where
  pub state : run_state new ≡ run_state old
  pub places : run_places new ≡ run_places old

-- a refused free leaves all of that, whichever call was due
abbrev pub KeepsRefused : Ledger → Ledger → ℕ → ℕ → Turn → Type 0
KeepsRefused old new thread number Behind = ⊤
KeepsRefused old new thread number (Made answer) =
    IfSome (due_call old.plan old.entries thread number) (λ call. IsRefusedFree call.op answer → LeavesAll old new)
