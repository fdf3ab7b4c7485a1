-- How allocations from caches are made with slabs that are made for them.
use Rattle.std.specs.Prelude.{◌≡◌, ℕ, ◌+◌, ◌^◌, ◌<◌, ◌≤◌, List, Option, None, Some, ⊤}
use Rattle.std.specs.List.{range_with_len}
use Rattle.umem_base.specs.Pages.{HasNoRun, IsLowestRun}
use Rattle.script.specs.Rules.{IsSlot}
use Rattle.plain_heap.specs.declared.entry.Entry.{Entry}
use Rattle.plain_heap.specs.declared.reply.Reply.{Reply}
use Rattle.plain_heap.specs.declared.reply.Reply.TheVariants as reply
use Rattle.plain_heap.specs.Laws.{IsAnsweredAt}
use Rattle.plain_heap.specs.Replies.{IsCacheReply}
use Rattle.plain_heap.specs.Setting.{IsCache, Setting, geometry_in}
use Rattle.plain_heap.specs.State.{IsFreePage, State, after_alloc, after_grow, chunk_start, new_slab, next_chunk, state_of, with_slot}
use Rattle.heap_ledger.specs.declared.slab_at.SlabAt.{SlabAt}
use Rattle.heap_memory.specs.declared.chunk.Chunk.{Chunk}
use Rattle.heap_memory.specs.Chunks.{IsRequested, kind_in}
use Rattle.heap_slabs.specs.Chunks.{IsLowestFreeChunk}
use Rattle.heap_slabs.specs.HeapSlabs.{HeapSlabs, quantities_of, slabs_of}
use Rattle.heap_accounts.specs.declared.chunk_request.ChunkRequest.{ChunkRequest}
use Rattle.heap_accounts.specs.declared.fresh.Fresh.{Fresh}
use Rattle.heap_accounts.specs.declared.tables.Tables.{Tables}
use Rattle.heap_accounts.specs.Kinds.{held_by}
use Rattle.heap_accounts.specs.Tables.{AreOfHistory, AreTablesOf, ForEachHistory, KeepsTables, Leaves}

-- ---- the slab

-- the slab that was made, by its cache and its base
abbrev pub fresh_slab : ℕ → Fresh → SlabAt
fresh_slab cache fresh = record { cache = cache; base = fresh.base }

-- the state in which it stands
abbrev pub fresh_state : ℕ → Fresh → Setting → State → State
fresh_state cache fresh setting state = after_grow setting state cache fresh.base

-- where its first chunk begins
abbrev pub fresh_start : ℕ → Fresh → Setting → State → ℕ
fresh_start cache fresh setting state = chunk_start setting (new_slab setting state cache fresh.base) 0

-- no run of pages is free for a slab of a cache
abbrev pub HasNoRunOf : ℕ → Setting → State → Type 0
HasNoRunOf cache setting state = HasNoRun (IsFreePage setting state) (geometry_in setting cache).pages

-- a slab of a cache is at the lowest run of pages that fits, and these are all of its rounds by rising number
pub record IsFresh (cache : ℕ) (fresh : Fresh) (setting : Setting) (state : State) : Type 0 where
  pub lowest : IsLowestRun (IsFreePage setting state) (geometry_in setting cache).pages fresh.base
  pub rounds : fresh.rounds.items ≡ range_with_len (next_chunk setting state) (geometry_in setting cache).rounds

-- ---- slabs that are made

-- the chunks of the slab that a cache makes next have numbers of 32 bits
abbrev pub HasNumbersFor : HeapSlabs → ℕ → Type 0
HasNumbersFor slabs cache = slabs.next + (quantities_of (slabs_of slabs.caches cache)).rounds < 2 ^ 32

-- the slab was made that a cache makes next
pub record OpensSlab (old new : Tables) (cache : ℕ) (fresh : Fresh) : Type 0 where
  pub its : ForEachHistory (IsFresh cache fresh) old
  pub after : Leaves (fresh_state cache fresh) old new
  pub room : old.live.spare ≤ new.live.spare

-- it was made, or no run of its pages is free
abbrev pub OpensFresh : Tables → Tables → ℕ → Option Fresh → Type 0
OpensFresh old new cache None = ForEachHistory (HasNoRunOf cache) old × KeepsTables old new
OpensFresh old new cache (Some fresh) = OpensSlab old new cache fresh

-- ---- allocations

-- there is such a cache, and its chunks are handed out for that size
pub record IsAsked (request : ChunkRequest) (setting : Setting) : Type 0 where
  pub is_cache : IsCache setting.header.caches request.cache
  pub requested : IsRequested (kind_in setting request.cache) request.size

-- a slab may be made for a request: it is one of a history that the tables are of, the slot is one of the thread, and
-- there is room for a buffer and for the numbers of the slab's chunks
pub record CanGrowFor (tables : Tables) (thread : ℕ) (request : ChunkRequest) : Type 0 where
  pub setting : Setting
  pub entries : List Entry
  pub its : AreOfHistory setting entries tables
  pub asked : IsAsked request setting
  pub within : thread < setting.header.threads
  pub slot : IsSlot setting.header request.slot
  pub room : 0 < tables.live.spare
  pub numbers : HasNumbersFor tables.slabs request.cache

-- a fact holds of each state that the tables are of, as a legal history left it, where the request may be made
abbrev pub ForEachAsking : ChunkRequest → (Setting → State → Type 0) → Tables → Type 0
ForEachAsking request Fact tables =
    (setting : Setting) (entries : List Entry) → AreOfHistory setting entries tables → IsAsked request setting
    → Fact setting (state_of setting entries)

-- a slab was made, and the request was answered with its first chunk, as each state with that slab allows
pub record HandsFirst (old new : Tables) (thread : ℕ) (request : ChunkRequest) (answer : Reply) (fresh : Fresh)
    : Type 0 where
  pub its : ForEachHistory (IsFresh request.cache fresh) old
  pub at : ForEachAsking request (λ setting state.
      IsAnsweredAt answer (fresh_start request.cache fresh setting state)) old
  pub reply : ForEachAsking request (λ setting state.
      IsCacheReply setting (fresh_state request.cache fresh setting state) request.cache answer) old
  pub after : ForEachAsking request (λ setting state. AreTablesOf setting
      (after_alloc setting (fresh_state request.cache fresh setting state) thread request.slot (held_by request)
      request.zero answer) new) old
  pub room : old.live.spare ≤ new.live.spare + 1

-- it was, or no run of pages is free for the slab
abbrev pub HandsFresh : Tables → Tables → ℕ → ChunkRequest → Option (Reply × Fresh) → Type 0
HandsFresh old new thread request None = ForEachHistory (HasNoRunOf request.cache) old × KeepsTables old new
HandsFresh old new thread request (Some both) = HandsFirst old new thread request both.0 both.1

-- ---- allocations that are refused

-- the slot got 0, and the tables are otherwise those of the same histories
pub record ClearsSlot (old new : Tables) (thread slot : ℕ) : Type 0 where
  pub after : Leaves (λ setting state. with_slot state thread slot 0) old new
  pub room : old.live.spare ≤ new.live.spare

-- an answer at an address is at the free chunk of a cache that has the lowest number
abbrev pub IsLowestLeft : ℕ → Reply → Setting → State → Type 0
IsLowestLeft cache (reply.At address found) setting state =
    (chunk : Chunk) × IsLowestFreeChunk cache chunk setting state × (address ≡ chunk.address)
IsLowestLeft cache other setting state = ⊤
