-- A call that the accounts made, and that is not entered in the journal yet.
use Rattle.std.specs.Prelude.{◌≡◌, ℕ, ◌+◌, ◌≤◌, false, List, ◌++◌, Option, length}
use Rattle.script.specs.Plan.{Call}
use Rattle.plain_heap.specs.declared.entry.Body.{Body}
use Rattle.plain_heap.specs.declared.reply.Reply.{Reply}
use Rattle.plain_heap.specs.State.{State, state_of}
use Rattle.heap_ledger.specs.Ledger.{AreInner, IsLedger, Ledger, after_commit, inner_entries, run_setting, run_state}
use Rattle.heap_logs.specs.declared.act.Act.{Act}
use Rattle.heap_logs.specs.Acts.{act_of_call}
use Rattle.heap_accounts.specs.Kinds.{is_free}
use Rattle.heap_books.specs.Books.{AreBooks}
use Rattle.heap_books.specs.Journal.{Journal}

-- the state behind inner entries of a thread
abbrev pub state_behind : Ledger → ℕ → List Body → State
state_behind ledger thread inner =
    state_of (run_setting ledger) (ledger.entries ++ inner_entries (length ledger.entries) thread inner)

-- The last call of a run gave nothing back. The journal is that of the run before it, which had so many entries; the
-- act is that of the call. Its inner entries and the slabs behind it are at most two more than the slabs before it, so
-- that there is room for their acts.
pub record IsLastMade (new : Ledger) (journal : Journal) (before : ℕ) (act : Option Act) : Type 0 where
  pub old : Ledger
  pub books : AreBooks old journal
  pub thread : ℕ
  pub inner : List Body
  pub call : Call
  pub answer : Reply
  pub made : new ≡ after_commit old thread inner call answer
  pub are_inner : AreInner inner
  pub kind : is_free call.op ≡ false
  pub count : before ≡ length old.entries
  pub its_act : act ≡ act_of_call (run_setting old) (state_behind old thread inner) thread call.op answer
  pub slabs : IsLedger new
      → length (run_state new).slabs + length inner ≤ length (run_state old).slabs + 2
