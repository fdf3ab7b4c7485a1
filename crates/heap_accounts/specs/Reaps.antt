-- How reaps give slabs back.
use Rattle.std.specs.Prelude.{◌≤◌, List}
use Rattle.script.specs.Rules.{IsHeader}
use Rattle.plain_heap.specs.declared.entry.Entry.{Entry}
use Rattle.plain_heap.specs.Legal.{IsLegal}
use Rattle.plain_heap.specs.Setting.{Setting}
use Rattle.plain_heap.specs.State.{state_of}
use Rattle.heap_ledger.specs.declared.slab_at.SlabAt.{SlabAt}
use Rattle.heap_ledger.specs.Commits.{AreReaped, after_shrinks}
use Rattle.heap_memory.specs.Memory.{IsMemoryOf, Memory}
use Rattle.heap_accounts.specs.declared.tables.Tables.{Tables}
use Rattle.heap_accounts.specs.Tables.{ForEachHistory, Leaves}

-- the memory is that of what a legal history left, and the slabs are those that a reap behind it gives back
pub record AreReapedOf (setting : Setting) (entries : List Entry) (memory : Memory) (slabs : List SlabAt) : Type 0 where
  pub header : IsHeader setting.header
  pub legal : IsLegal setting entries
  pub bytes : IsMemoryOf setting (state_of setting entries) memory
  pub reaped : AreReaped setting (state_of setting entries) slabs

-- the same of some legal history
pub record AreReapedOfSome (memory : Memory) (slabs : List SlabAt) : Type 0 where
  pub setting : Setting
  pub entries : List Entry
  pub its : AreReapedOf setting entries memory slabs

-- for each legal history behind which a reap gives the slabs back, the memory is then that of what is left once the
-- closed ones of them were given back
abbrev pub ClosesSlabs : Memory → Memory → List SlabAt → List SlabAt → Type 0
ClosesSlabs old new slabs closed =
    (setting : Setting) (entries : List Entry) → AreReapedOf setting entries old slabs
    → IsMemoryOf setting (after_shrinks (state_of setting entries) closed) new

-- the slabs of which no chunk lives were given back, and there is as much room
pub record PerformsReap (old new : Tables) : Type 0 where
  pub reaped : ForEachHistory (λ setting state. AreReaped setting state new.slabs.reaped) old
  pub after : Leaves (λ setting state. after_shrinks state new.slabs.reaped) old new
  pub room : old.live.spare ≤ new.live.spare
