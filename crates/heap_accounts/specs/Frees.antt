-- How frees are made, and which rounds come back of them.
use Rattle.std.specs.Prelude.{◌≡◌, ℕ, false, true, List, Option, None, IfSome, IsSome, option_map}
use Rattle.std.specs.Option.{option_and_then}
use Rattle.script.specs.declared.operation.Op.{Op}
use Rattle.script.specs.Plan.{Call}
use Rattle.plain_heap.specs.declared.entry.Entry.{Entry}
use Rattle.plain_heap.specs.declared.reply.Reply.{Reply}
use Rattle.plain_heap.specs.declared.reply.Reply.TheVariants as reply
use Rattle.plain_heap.specs.Calls.{due_call}
use Rattle.plain_heap.specs.Live.{live_at}
use Rattle.plain_heap.specs.Setting.{Setting}
use Rattle.plain_heap.specs.State.{State, give_back, word_of_slot}
use Rattle.heap_ledger.specs.Ledger.{Ledger, run_setting, run_state}
use Rattle.heap_memory.specs.Memory.{IsMemoryOf}
use Rattle.heap_slabs.specs.declared.placed.Placed.{Placed}
use Rattle.heap_slabs.specs.Chunks.{placed_at}
use Rattle.heap_accounts.specs.declared.freed.Freed.{Freed}
use Rattle.heap_accounts.specs.declared.freed.Freed.TheVariants.{Behind, Made}
use Rattle.heap_accounts.specs.declared.tables.Tables.{Tables}
use Rattle.heap_accounts.specs.Kinds.{freed_slot, is_free}
use Rattle.heap_accounts.specs.Tables.{AreOfHistory, ForEachHistory, Performs}

-- the number of the chunk that begins at an address, if one does
abbrev pub number_there : Setting → State → ℕ → Option ℕ
number_there setting state address = option_map (λ placed. placed.chunk.number) (placed_at setting state address)

-- the number of the chunk that a free of a word gave back, if it was answered ok and a chunk begins there
abbrev pub number_back : Setting → State → ℕ → Reply → Option ℕ
number_back setting state word reply.Ok = number_there setting state word
number_back setting state word other = None

-- a round came back of a free exactly where it gave a chunk back, and has the number of that chunk
abbrev pub IsRoundOf : Setting → State → ℕ → Op → Reply → Option ℕ → Type 0
IsRoundOf setting state thread op answer round =
    IfSome (freed_slot op) (λ slot. round ≡ number_back setting state (word_of_slot state thread slot) answer)

-- the tables are those of some legal history, and a buffer lives at an address
pub record LivesAt (tables : Tables) (address : ℕ) : Type 0 where
  pub setting : Setting
  pub entries : List Entry
  pub its : AreOfHistory setting entries tables
  pub lives : IsSome (live_at tables.live.buffers address)

-- the memory is that of what it leaves to give the buffer at an address back
abbrev pub TakesBack : Tables → Tables → ℕ → Type 0
TakesBack old new address =
    ForEachHistory (λ setting state. IsMemoryOf setting (give_back setting state address) new.memory) old

-- the tables are those of some legal history
pub record AreOfSome (tables : Tables) : Type 0 where
  pub setting : Setting
  pub entries : List Entry
  pub its : AreOfHistory setting entries tables

-- a free was made, and its round came back; or the operation is none, and nothing changed
abbrev pub PerformsFree : Tables → Tables → ℕ → Op → Freed → Type 0
PerformsFree old new thread op Behind = (is_free op ≡ false) × (new ≡ old)
PerformsFree old new thread op (Made answer round) =
    (is_free op ≡ true) × Performs old new thread op answer
    × ForEachHistory (λ setting state. IsRoundOf setting state thread op answer round) old

-- ---- before a free

-- the chunk that begins at the word of a thread's slot, if one does
abbrev pub placed_in_slot : Ledger → ℕ → ℕ → Option Placed
placed_in_slot ledger thread slot =
    placed_at (run_setting ledger) (run_state ledger) (word_of_slot (run_state ledger) thread slot)

-- the chunk that begins at the word of the slot whose buffer a call of a thread gives back, if it gives one back
abbrev pub freed_by : Ledger → ℕ → Call → Option Placed
freed_by ledger thread its = option_and_then (placed_in_slot ledger thread) (freed_slot its.op)

-- the same of the call of that number, if it is the thread's next one
abbrev pub freed_next : Ledger → ℕ → ℕ → Option Placed
freed_next ledger thread number =
    option_and_then (freed_by ledger thread) (due_call ledger.plan ledger.entries thread number)
