-- How allocations from caches are made with chunks that are known to be free.
use Rattle.std.specs.Prelude.{◌≡◌, ℕ, ◌+◌, ◌<◌, ◌≤◌, length, ⊤}
use Rattle.script.specs.declared.operation.Op.{Op}
use Rattle.script.specs.declared.operation.Op.TheVariants.{Alloc, Zalloc, Free, CacheAlloc, CacheFree, Copy, Clear, Store, Link, Load, Reap}
use Rattle.script.specs.Rules.{IsHeader, IsSlot}
use Rattle.plain_heap.specs.declared.reply.Reply.{Reply}
use Rattle.plain_heap.specs.Laws.{AreSeparate, IsAnsweredAt}
use Rattle.plain_heap.specs.Replies.{IsCacheReply}
use Rattle.plain_heap.specs.Setting.{IsCache, Setting}
use Rattle.plain_heap.specs.State.{State, after_alloc}
use Rattle.heap_memory.specs.declared.chunk.Chunk.{Chunk}
use Rattle.heap_memory.specs.Chunks.{IsRequested, kind_in}
use Rattle.heap_slabs.specs.Chunks.{IsFreeChunk}
use Rattle.heap_slabs.specs.HeapSlabs.{HeapSlabs}
use Rattle.heap_accounts.specs.declared.chunk_request.ChunkRequest.{ChunkRequest}
use Rattle.heap_accounts.specs.declared.tables.Tables.{Tables}
use Rattle.heap_accounts.specs.Kinds.{held_by}
use Rattle.heap_accounts.specs.Tables.{AreTablesOf}

-- a cache that an operation allocates from is one of the table's
abbrev pub NamesCache : HeapSlabs → Op → Type 0
NamesCache slabs (CacheAlloc slot cache) = cache < length slabs.caches
NamesCache slabs (Alloc slot size) = ⊤
NamesCache slabs (Zalloc slot size) = ⊤
NamesCache slabs (Free slot size) = ⊤
NamesCache slabs (CacheFree slot cache) = ⊤
NamesCache slabs (Copy to from) = ⊤
NamesCache slabs (Clear slot) = ⊤
NamesCache slabs (Store slot offset stored) = ⊤
NamesCache slabs (Link slot offset value) = ⊤
NamesCache slabs (Load to slot offset) = ⊤
NamesCache slabs Reap = ⊤

-- no free chunk of a cache has the number
abbrev pub HasNoFreeNumber : ℕ → ℕ → Setting → State → Type 0
HasNoFreeNumber cache number setting state =
    (chunk : Chunk) → IsFreeChunk cache chunk setting state → ¬ (chunk.number ≡ number)

-- a free chunk of a cache has the number
abbrev pub HasFreeNumber : ℕ → ℕ → Chunk → Setting → State → Type 0
HasFreeNumber cache number chunk setting state = IsFreeChunk cache chunk setting state × (chunk.number ≡ number)

-- a request can be answered with a chunk: it is a free one of the cache, and such chunks are handed out for that size
pub record CanHand (request : ChunkRequest) (chunk : Chunk) (setting : Setting) (state : State) : Type 0 where
  pub separate : AreSeparate setting state
  pub is_cache : IsCache setting.header.caches request.cache
  pub requested : IsRequested (kind_in setting request.cache) request.size
  pub free : IsFreeChunk request.cache chunk setting state

-- the tables are those of some state in which it can, the slot is one of the thread, and there is room for one buffer
pub record CanHandIn (tables : Tables) (thread : ℕ) (request : ChunkRequest) (chunk : Chunk) : Type 0 where
  pub setting : Setting
  pub state : State
  pub header : IsHeader setting.header
  pub are : AreTablesOf setting state tables
  pub can : CanHand request chunk setting state
  pub within : thread < setting.header.threads
  pub slot : IsSlot setting.header request.slot
  pub room : 0 < tables.live.spare

-- a fact holds of each state that the tables are of, in which the request can be answered with the chunk
abbrev pub ForEachHanding : ChunkRequest → Chunk → (Setting → State → Type 0) → Tables → Type 0
ForEachHanding request chunk Fact tables =
    (setting : Setting) (state : State) → IsHeader setting.header → AreTablesOf setting state tables
    → CanHand request chunk setting state → Fact setting state

-- it was answered with the chunk, as each such state allows, and the tables are those of what that leaves
pub record HandsChunk (old new : Tables) (thread : ℕ) (request : ChunkRequest) (chunk : Chunk) (answer : Reply)
    : Type 0 where
  pub at : IsAnsweredAt answer chunk.address
  pub reply : ForEachHanding request chunk (λ setting state. IsCacheReply setting state request.cache answer) old
  pub after : ForEachHanding request chunk (λ setting state. AreTablesOf setting
      (after_alloc setting state thread request.slot (held_by request) request.zero answer) new) old
  pub room : old.live.spare ≤ new.live.spare + 1
