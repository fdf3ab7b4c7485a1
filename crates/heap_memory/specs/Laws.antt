-- What follows of the definitions of this crate: the statements, which laws prove.
use Rattle.std.specs.Prelude.{◌≡◌, ℕ, ◌+◌, ◌<◌, Contains}
use Rattle.script.specs.Rules.{IsHeader, IsSlot}
use Rattle.plain_heap.specs.Laws.{AreSeparate}
use Rattle.plain_heap.specs.Setting.{Setting, geometry_in}
use Rattle.plain_heap.specs.State.{HeapSlab, State, chunk_start}
use Rattle.heap_memory.specs.declared.chunk.Chunk.{Chunk}
use Rattle.heap_memory.specs.declared.chunk_kind.ChunkKind.{ChunkKind}
use Rattle.heap_memory.specs.Chunks.{HoldsChunk, IsChunkAt, IsKind, kind_in}
use Rattle.heap_memory.specs.Memory.{Memory}
use Rattle.heap_memory.specs.Pages.{HasSlot, HasSpan}
use Rattle.heap_memory.specs.States.{ForEachState, HasSlabAt, IsLargeAt}

-- the words of the slots of the header's threads are mapped
abbrev pub AreSlotsMapped : Type 0
AreSlotsMapped =
    (memory : Memory) (thread slot : ℕ)
    → ForEachState (λ setting state. thread < setting.header.threads → IsSlot setting.header slot
    → HasSlot memory thread slot) memory

-- a live large buffer has a span
abbrev pub HaveLargeBuffersASpan : Type 0
HaveLargeBuffersASpan =
    (memory : Memory) (address : ℕ)
    → ForEachState (λ setting state. IsLargeAt address setting state → HasSpan memory address) memory

-- a slab that stands has a span
abbrev pub HaveSlabsASpan : Type 0
HaveSlabsASpan =
    (memory : Memory) (base : ℕ)
    → ForEachState (λ setting state. HasSlabAt base setting state → HasSpan memory base) memory

-- a chunk of a slab that stands is inside of one run
abbrev pub AreChunksInsideOfRuns : Type 0
AreChunksInsideOfRuns =
    (memory : Memory) (kind : ChunkKind) (chunk : Chunk)
    → ForEachState (λ setting state. IsChunkAt kind chunk setting state → HoldsChunk memory kind chunk) memory

-- chunks may be of the kind of a cache
abbrev pub AreKindsOfCachesSound : Type 0
AreKindsOfCachesSound = (setting : Setting) (cache : ℕ) → IsHeader setting.header → IsKind (kind_in setting cache)

-- a chunk of a slab that stands, by its place in the slab
abbrev pub chunk_of_slab : Setting → HeapSlab → ℕ → Chunk
chunk_of_slab setting slab index =
    record { address = chunk_start setting slab index; number = slab.first + index }

-- the chunks of a slab that stands are known by their places, where the runs of the state stand apart
abbrev pub AreChunksKnownByTheirPlaces : Type 0
AreChunksKnownByTheirPlaces =
    (setting : Setting) (state : State) (slab : HeapSlab) (index : ℕ)
    → IsHeader setting.header → AreSeparate setting state → Contains state.slabs slab
    → index < (geometry_in setting slab.cache).rounds
    → IsChunkAt (kind_in setting slab.cache) (chunk_of_slab setting slab index) setting state
