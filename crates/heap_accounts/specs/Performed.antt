-- What one call of a thread adds to a history by the magazine rules: its inner entries, and its answer.
use Rattle.std.specs.Prelude.{◌≡◌, ℕ, List, [], ◌∷◌, Option, Some, None}
use Rattle.std.specs.Option.{option_map}
use Rattle.umem_base.specs.Pages.{HasNoRun, IsLowestRun}
use Rattle.case_table.specs.Sizes.{class_for}
use Rattle.script.specs.declared.operation.Op.{Op}
use Rattle.script.specs.declared.operation.Op.TheVariants.{Alloc, Zalloc, Free, CacheAlloc, CacheFree, Copy, Clear, Store, Link, Load, Reap}
use Rattle.shelf.specs.Steps.{chunk_in, taken_any, taken_from}
use Rattle.plain_heap.specs.declared.entry.Body.{Body}
use Rattle.plain_heap.specs.declared.entry.Body.TheVariants.{Grow}
use Rattle.plain_heap.specs.declared.reply.Reply.{Reply}
use Rattle.plain_heap.specs.declared.reply.Reply.TheVariants as reply
use Rattle.plain_heap.specs.Replies.{report_at}
use Rattle.plain_heap.specs.Setting.{Setting, geometry_in}
use Rattle.plain_heap.specs.State.{IsFreePage, State, after_grow, chunk_start, new_slab}
use Rattle.heap_ledger.specs.declared.slab_at.SlabAt.{SlabAt}
use Rattle.heap_ledger.specs.Commits.{AreReaped, IsTidyReply}
use Rattle.heap_ledger.specs.Ledger.{shrunk}
use Rattle.heap_accounts.specs.Places.{Places, address_of, cpu_of, stock_at}

-- ---- allocations

-- the answer with an address, and what is reported of the chunk there
abbrev pub answer_at : Setting → State → ℕ → Reply
answer_at setting state address = reply.At address (report_at setting state address)

-- the answer is the chunk of a number, with what is reported of it
abbrev pub IsHandedOut : Setting → State → ℕ → Reply → Type 0
IsHandedOut setting state chunk answer =
    option_map (answer_at setting state) (address_of setting state chunk) ≡ Some answer

-- where no round is within reach and no slab can be made: the chunk that is found by looking at all CPUs, else no space
abbrev pub IsFoundAnyhow : Setting → State → Option ℕ → Reply → Type 0
IsFoundAnyhow setting state (Some chunk) answer = IsHandedOut setting state chunk answer
IsFoundAnyhow setting state None answer = answer ≡ reply.NoSpace

-- where no round is within reach: a slab at the lowest run of pages that fits, and its first chunk; where none fits, no
-- slab, and all CPUs are looked at
abbrev pub IsGrown : Setting → State → ℕ → Option ℕ → List Body → Reply → Type 0
IsGrown setting state cache anyhow [] answer =
    HasNoRun (IsFreePage setting state) (geometry_in setting cache).pages
    × IsFoundAnyhow setting state anyhow answer
IsGrown setting state cache anyhow (Grow its base ∷ []) answer =
    (its ≡ cache) × IsLowestRun (IsFreePage setting state) (geometry_in setting cache).pages base
    × (answer ≡ answer_at setting (after_grow setting state cache base)
    (chunk_start setting (new_slab setting state cache base) 0))
IsGrown setting state cache anyhow other answer = ⊥

-- the chunk that is found within reach, and else one of a new slab or one from anywhere
abbrev pub IsFoundWithin : Setting → State → ℕ → Option ℕ → Option ℕ → List Body → Reply → Type 0
IsFoundWithin setting state cache (Some chunk) anyhow inner answer =
    (inner ≡ []) × IsHandedOut setting state chunk answer
IsFoundWithin setting state cache None anyhow inner answer = IsGrown setting state cache anyhow inner answer

-- an allocation of a thread from a cache
abbrev pub IsPerformedChunk : Setting → State → Places → ℕ → ℕ → List Body → Reply → Type 0
IsPerformedChunk setting state places thread cache inner answer =
    let stock = stock_at places cache in
    let cpu = cpu_of setting thread in
    IsFoundWithin setting state cache (chunk_in (taken_from stock cpu)) (chunk_in (taken_any stock cpu)) inner answer

-- a call without inner entries, whose answer is allowed and tidy
abbrev pub IsPerformedAlone : Setting → State → ℕ → Op → List Body → Reply → Type 0
IsPerformedAlone setting state thread op inner answer = (inner ≡ []) × IsTidyReply setting state thread op answer

-- an allocation of a size: of a chunk, where a class serves it, and else of whole pages or of none
abbrev pub IsPerformedRequest : Setting → State → Places → ℕ → Op → Option ℕ → List Body → Reply → Type 0
IsPerformedRequest setting state places thread op (Some class) inner answer =
    IsPerformedChunk setting state places thread class inner answer
IsPerformedRequest setting state places thread op None inner answer =
    IsPerformedAlone setting state thread op inner answer

-- ---- reaps

-- a reap gives back exactly the slabs of which no chunk lives, by cache and then by base
pub record IsPerformedReap (setting : Setting) (state : State) (inner : List Body) (answer : Reply) : Type 0 where
  pub slabs : List SlabAt
  pub shrinks : inner ≡ shrunk slabs
  pub exactly : AreReaped setting state slabs
  pub ok : answer ≡ reply.Ok

-- ---- calls

-- what a call of a thread adds, by the state and the places before it
abbrev pub IsPerformed : Setting → State → Places → ℕ → Op → List Body → Reply → Type 0
IsPerformed setting state places thread (Alloc slot size) inner answer =
    IsPerformedRequest setting state places thread (Alloc slot size) (class_for size) inner answer
IsPerformed setting state places thread (Zalloc slot size) inner answer =
    IsPerformedRequest setting state places thread (Zalloc slot size) (class_for size) inner answer
IsPerformed setting state places thread (CacheAlloc slot cache) inner answer =
    IsPerformedChunk setting state places thread cache inner answer
IsPerformed setting state places thread (Free slot size) inner answer =
    IsPerformedAlone setting state thread (Free slot size) inner answer
IsPerformed setting state places thread (CacheFree slot cache) inner answer =
    IsPerformedAlone setting state thread (CacheFree slot cache) inner answer
IsPerformed setting state places thread (Copy to from) inner answer =
    IsPerformedAlone setting state thread (Copy to from) inner answer
IsPerformed setting state places thread (Clear slot) inner answer =
    IsPerformedAlone setting state thread (Clear slot) inner answer
IsPerformed setting state places thread (Store slot offset stored) inner answer =
    IsPerformedAlone setting state thread (Store slot offset stored) inner answer
IsPerformed setting state places thread (Link slot offset value) inner answer =
    IsPerformedAlone setting state thread (Link slot offset value) inner answer
IsPerformed setting state places thread (Load to slot offset) inner answer =
    IsPerformedAlone setting state thread (Load to slot offset) inner answer
IsPerformed setting state places thread Reap inner answer = IsPerformedReap setting state inner answer
