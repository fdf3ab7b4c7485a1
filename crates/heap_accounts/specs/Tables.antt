-- The tables of a history, and how contracts speak of them by the histories that they may be of.
use Rattle.std.specs.Prelude.{◌≡◌, ℕ, ◌+◌, ◌<◌, ◌≤◌, Bool, true, false, List, Option, None, Some}
use Rattle.script.specs.declared.operation.Op.{Op}
use Rattle.script.specs.Rules.{IsHeader, IsOp}
use Rattle.plain_heap.specs.declared.entry.Entry.{Entry}
use Rattle.plain_heap.specs.declared.reply.Reply.{Reply}
use Rattle.plain_heap.specs.Legal.{IsLegal}
use Rattle.plain_heap.specs.Live.{TellsLive}
use Rattle.plain_heap.specs.Setting.{Setting}
use Rattle.plain_heap.specs.State.{State, after_call, state_of}
use Rattle.heap_ledger.specs.Commits.{IsTidyReply}
use Rattle.heap_memory.specs.Memory.{IsMemoryOf}
use Rattle.heap_slabs.specs.HeapSlabs.{IsTableOf}
use Rattle.heap_accounts.specs.declared.tables.Tables.{Tables}

-- the memory, the book of live buffers and the table of slabs are those of a state
pub record AreTablesOf (setting : Setting) (state : State) (tables : Tables) : Type 0 where
  pub bytes : IsMemoryOf setting state tables.memory
  pub buffers : TellsLive tables.live.buffers state
  pub slabs : IsTableOf setting state tables.slabs

-- the tables are those of what a legal history left
pub record AreOfHistory (setting : Setting) (entries : List Entry) (tables : Tables) : Type 0 where
  pub header : IsHeader setting.header
  pub legal : IsLegal setting entries
  pub are : AreTablesOf setting (state_of setting entries) tables

-- a fact holds of each state that the tables are of, as a legal history left it
abbrev pub ForEachHistory : (Setting → State → Type 0) → Tables → Type 0
ForEachHistory Fact tables =
    (setting : Setting) (entries : List Entry) → AreOfHistory setting entries tables
    → Fact setting (state_of setting entries)

-- the tables are then those of what a step makes of it
abbrev pub Leaves : (Setting → State → State) → Tables → Tables → Type 0
Leaves step old new = ForEachHistory (λ setting state. AreTablesOf setting (step setting state) new) old

-- the tables are those of some legal history, the operation of a thread keeps the limits of its header, and there is
-- room for a buffer more
pub record IsKnown (tables : Tables) (thread : ℕ) (op : Op) : Type 0 where
  pub setting : Setting
  pub entries : List Entry
  pub its : AreOfHistory setting entries tables
  pub within : thread < setting.header.threads
  pub limits : IsOp setting.header op
  pub room : 0 < tables.live.spare

-- the tables are those of the same histories, with as much room
pub record KeepsTables (old new : Tables) : Type 0 where
  pub after : Leaves (λ setting state. state) old new
  pub room : old.live.spare ≤ new.live.spare

-- a call was answered as each such state allows, and the tables are those of what it leaves
pub record Performs (old new : Tables) (thread : ℕ) (op : Op) (answer : Reply) : Type 0 where
  pub reply : ForEachHistory (λ setting state. IsTidyReply setting state thread op answer) old
  pub after : Leaves (λ setting state. after_call setting state thread op answer) old new
  pub room : old.live.spare ≤ new.live.spare + 1

-- a call of a kind was made, or it is of another kind, and nothing changed
abbrev pub PerformsKind : (Op → Bool) → Tables → Tables → ℕ → Op → Option Reply → Type 0
PerformsKind kind old new thread op None = (kind op ≡ false) × (new ≡ old)
PerformsKind kind old new thread op (Some answer) = (kind op ≡ true) × Performs old new thread op answer
