-- Which histories answer a script: legal ones of its calls, in which each run of pages is the lowest that fits and
-- inner entries stand in their order directly before the call that caused them.
use Rattle.std.specs.Prelude.{◌≡◌, ℕ, ◌+◌, ◌<◌, ◌⊎◌, Bool, List, Option, Some, None, Contains, IsTrue, take, ⊤}
use Rattle.std.specs.List.{slice_get}
use Rattle.umem_base.specs.Pages.{IsLowestRun, pages_for}
use Rattle.case_table.specs.Sizes.{class_for}
use Rattle.script.specs.declared.operation.Op.{Op}
use Rattle.script.specs.declared.operation.Op.TheVariants.{Alloc, Zalloc, Free, CacheAlloc, CacheFree, Copy, Clear, Store, Link, Load, Reap}
use Rattle.script.specs.Plan.{Plan}
use Rattle.plain_heap.specs.declared.entry.Body.{Body}
use Rattle.plain_heap.specs.declared.entry.Body.TheVariants.{Call, Grow, Shrink}
use Rattle.plain_heap.specs.declared.entry.Entry.{Entry}
use Rattle.plain_heap.specs.declared.reply.Reply.{Reply}
use Rattle.plain_heap.specs.declared.reply.Reply.TheVariants as reply
use Rattle.plain_heap.specs.Setting.{Setting, geometry_in}
use Rattle.plain_heap.specs.State.{HeapSlab, IsChunkOf, IsFreePage, State, is_live, state_of}
use Rattle.plain_heap.specs.Legal.{IsLegal}
use Rattle.plain_heap.specs.Calls.{Follows, IsFinished}

-- ---- the lowest runs

-- where no class serves a size, its pages were handed out at the lowest run that fits
abbrev pub IsLowestRequest : Setting → State → ℕ → Option ℕ → Reply → Type 0
IsLowestRequest setting state size None (reply.At address report) =
    IsLowestRun (IsFreePage setting state) (pages_for size) address
IsLowestRequest setting state size None other = ⊤
IsLowestRequest setting state size (Some class) answer = ⊤

-- ---- slabs at a reap

-- some chunk of the slab lives
pub record IsInUse (setting : Setting) (state : State) (slab : HeapSlab) : Type 0 where
  pub address : ℕ
  pub chunk : IsChunkOf setting slab address
  pub live : IsTrue (is_live state address)

-- each slab that stands has a live chunk
abbrev pub AreAllInUse : Setting → State → Type 0
AreAllInUse setting state = (slab : HeapSlab) → Contains state.slabs slab → IsInUse setting state slab

-- ---- the order of inner entries

-- a slab of a cache at a base stands before what an entry gives back: by rising cache, and then by rising base
abbrev pub StandsBefore : ℕ → ℕ → Body → Type 0
StandsBefore cache base (Shrink next_cache next_base) =
    (cache < next_cache) ⊎ ((cache ≡ next_cache) × (base < next_base))
StandsBefore cache base (Grow next_cache next_base) = ⊥
StandsBefore cache base (Call op frames answer) = ⊤

-- the very next entry is one of the thread
abbrev pub IsByThread : ℕ → Option Entry → Type 0
IsByThread thread None = ⊥
IsByThread thread (Some next) = next.thread ≡ thread

-- a shrink stands before the very next entry, in their order
abbrev pub IsInOrder : ℕ → ℕ → Option Entry → Type 0
IsInOrder cache base None = ⊥
IsInOrder cache base (Some next) = StandsBefore cache base next.body

-- a call takes the lowest run, and a reap leaves no slab without a live chunk
abbrev pub IsTidyCall : Setting → State → Op → Reply → Type 0
IsTidyCall setting state (Alloc slot size) answer = IsLowestRequest setting state size (class_for size) answer
IsTidyCall setting state (Zalloc slot size) answer = IsLowestRequest setting state size (class_for size) answer
IsTidyCall setting state (Free slot size) answer = ⊤
IsTidyCall setting state (CacheAlloc slot cache) answer = ⊤
IsTidyCall setting state (CacheFree slot cache) answer = ⊤
IsTidyCall setting state (Copy to from) answer = ⊤
IsTidyCall setting state (Clear slot) answer = ⊤
IsTidyCall setting state (Store slot offset stored) answer = ⊤
IsTidyCall setting state (Link slot offset value) answer = ⊤
IsTidyCall setting state (Load to slot offset) answer = ⊤
IsTidyCall setting state Reap answer = AreAllInUse setting state

-- The body of an entry of a thread is tidy, by what the entries before it left and the very next entry: a grow takes
-- the lowest run and stands directly before its allocation, and a shrink stands directly before the next shrink, in
-- their order, or before the reap.
abbrev pub IsTidyBody : Setting → State → ℕ → Body → Option Entry → Type 0
IsTidyBody setting state thread (Call op frames answer) next = IsTidyCall setting state op answer
IsTidyBody setting state thread (Grow cache base) next =
    IsLowestRun (IsFreePage setting state) (geometry_in setting cache).pages base × IsByThread thread next
IsTidyBody setting state thread (Shrink cache base) next = IsByThread thread next × IsInOrder cache base next

-- each entry is tidy
abbrev pub AreTidy : Setting → List Entry → Type 0
AreTidy setting entries =
    (n : ℕ) (entry : Entry) → slice_get entries n ≡ Some entry
    → IsTidyBody setting (state_of setting (take n entries)) entry.thread entry.body (slice_get entries (n + 1))

-- what is fixed for the histories of a plan
abbrev pub setting_for : Bool → Plan → Setting
setting_for guards plan = record { header = plan.header; guards = guards }

-- a legal and tidy history of the plan's calls, each made in its turn
pub record Answers (guards : Bool) (plan : Plan) (entries : List Entry) : Type 0 where
  pub legal : IsLegal (setting_for guards plan) entries
  pub follows : Follows plan entries
  pub finished : IsFinished plan entries
  pub tidy : AreTidy (setting_for guards plan) entries
