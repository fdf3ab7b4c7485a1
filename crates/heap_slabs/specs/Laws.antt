-- What follows of the definitions of this crate: the statements, which laws prove.
use Rattle.std.specs.Prelude.{◌≡◌, ℕ, ◌+◌, ◌^◌, ◌<◌, Bool, Some, length}
use Rattle.umem_base.specs.Pages.{IsFreeRun, pages_for}
use Rattle.script.specs.Rules.{IsHeader}
use Rattle.plain_heap.specs.Answers.{IsInUse}
use Rattle.plain_heap.specs.Laws.{AreSeparate, large}
use Rattle.plain_heap.specs.Legal.{IsUnused}
use Rattle.plain_heap.specs.Setting.{Setting, geometry_in}
use Rattle.plain_heap.specs.State.{HeapSlab, IsFreePage, State, give_back, hand_out, is_live}
use Rattle.heap_memory.specs.Chunks.{IsChunkAt, kind_in}
use Rattle.heap_memory.specs.States.{IsLargeAt}
use Rattle.heap_slabs.specs.declared.placed.Placed.{Placed}
use Rattle.heap_slabs.specs.Chunks.{IsNextUnused, IsAtItsPlace, placed_at}
use Rattle.heap_slabs.specs.States.{ForEachTabled, TableBecomes}
use Rattle.heap_slabs.specs.HeapSlabs.{HasPlace, IsTableOf, HeapSlabs, live_chunks, quantities_of, slabs_of}

-- a table looks at live buffers, at the slabs and at the grows alone
abbrev pub TablesLookAtSlabs : Type 0
TablesLookAtSlabs =
    (setting : Setting) (state next : State) (table : HeapSlabs) → IsTableOf setting state table
    → ((address : ℕ) → is_live next address ≡ is_live state address) → next.slabs ≡ state.slabs
    → next.grown ≡ state.grown → IsTableOf setting next table

-- a large buffer that is handed out over free pages leaves the table
abbrev pub LargeBuffersLeaveTheTable : Type 0
LargeBuffersLeaveTheTable =
    (table : HeapSlabs) (size base : ℕ) (zero : Bool)
    → ForEachTabled (λ setting state. AreSeparate setting state → 0 < size
    → IsFreeRun (IsFreePage setting state) (pages_for size) base
    → IsTableOf setting (hand_out setting state base (large size) zero) table) table

-- so does one that is given back
abbrev pub FreedLargeBuffersLeaveTheTable : Type 0
FreedLargeBuffersLeaveTheTable =
    (table : HeapSlabs) (base : ℕ)
    → TableBecomes (IsLargeAt base) (λ setting state. give_back setting state base) table table

-- over free pages a slab of a cache has its place, while the numbers of its chunks have 32 bits
abbrev pub FreeRunsArePlaces : Type 0
FreeRunsArePlaces =
    (table : HeapSlabs) (cache base : ℕ) → cache < length table.caches
    → table.next + (quantities_of (slabs_of table.caches cache)).rounds < 2 ^ 32
    → ForEachTabled (λ setting state. AreSeparate setting state
    → IsFreeRun (IsFreePage setting state) (geometry_in setting cache).pages base → HasPlace table cache base) table

-- and no chunk of it lives
abbrev pub NewSlabsAreUnused : Type 0
NewSlabsAreUnused =
    (setting : Setting) (state : State) (cache base : ℕ) → IsHeader setting.header → AreSeparate setting state
    → IsFreeRun (IsFreePage setting state) (geometry_in setting cache).pages base
    → IsNextUnused cache base setting state

-- no chunk of a slab lives where the count is zero
abbrev pub CountsOfZeroAreUnused : Type 0
CountsOfZeroAreUnused =
    (setting : Setting) (state : State) (slab : HeapSlab) → live_chunks setting state slab ≡ 0
    → IsUnused setting state slab

-- and one does where it is not
abbrev pub OtherCountsAreInUse : Type 0
OtherCountsAreInUse =
    (setting : Setting) (state : State) (slab : HeapSlab) → 0 < live_chunks setting state slab
    → IsInUse setting state slab

-- a chunk at its place is known to a memory, where the runs of the state stand apart
abbrev pub PlacedChunksAreKnown : Type 0
PlacedChunksAreKnown =
    (setting : Setting) (state : State) (placed : Placed) → IsHeader setting.header → AreSeparate setting state
    → IsAtItsPlace setting state placed → IsChunkAt (kind_in setting placed.cache) placed.chunk setting state

-- and so is the chunk that is found at an address, which is at its place
abbrev pub FoundChunksArePlaced : Type 0
FoundChunksArePlaced =
    (setting : Setting) (state : State) (address : ℕ) (placed : Placed) → IsHeader setting.header
    → placed_at setting state address ≡ Some placed → IsAtItsPlace setting state placed
