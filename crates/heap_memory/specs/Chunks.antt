-- The kinds of chunks, and which chunks a state has.
use Rattle.std.specs.Prelude.{◌≡◌, ℕ, ◌+◌, ◌/◌, ◌%◌, ◌^◌, ◌<◌, ◌≤◌, List, length, slice_index, nat_lt, Some, if◌then◌else◌}
use Rattle.case_table.specs.declared.limits.TheConstants.{CLASS_COUNT, MOST_CACHE_BYTES}
use Rattle.case_table.specs.Addresses.{bufctl_address}
use Rattle.case_table.specs.Geometry.{content_of, geometry_of, tag_of}
use Rattle.case_table.specs.Sizes.{class_for, size_of}
use Rattle.addr_space.specs.Space.{IsInRun, Space, Writes, runs_of}
use Rattle.buftag.specs.declared.shape.Shape.{Shape}
use Rattle.buftag.specs.Shape.{shape_of_cache, shape_of_class}
use Rattle.plain_heap.specs.Setting.{Setting, cache_def_in}
use Rattle.plain_heap.specs.State.{HeapSlab, State, chunk_number, grows_of, next_chunk, slab_with_chunk}
use Rattle.heap_memory.specs.declared.chunk.Chunk.{Chunk}
use Rattle.heap_memory.specs.declared.chunk_kind.ChunkKind.{ChunkKind}
use Rattle.heap_memory.specs.declared.new_slab.NewSlab.{NewSlab}
use Rattle.heap_memory.specs.Memory.{Memory}

-- ---- kinds

-- the kind of a cache's chunks
abbrev pub kind_in : Setting → ℕ → ChunkKind
kind_in setting cache =
    let def = cache_def_in setting cache in
    record { cache = cache; size = def.size; ctor = def.ctor; guards = setting.guards }

-- chunks may be of the kind: its size is one that a cache may have, and a class has its own
pub record IsKind (kind : ChunkKind) : Type 0 where
  pub some : 0 < kind.size
  pub small : kind.size ≤ MOST_CACHE_BYTES
  pub class : kind.cache < CLASS_COUNT → kind.size ≡ size_of kind.cache

-- a size may be requested of such chunks: the class is that of the size, or a declared cache has it
pub record IsRequested (kind : ChunkKind) (requested : ℕ) : Type 0 where
  pub class : kind.cache < CLASS_COUNT → class_for requested ≡ Some kind.cache
  pub declared : CLASS_COUNT ≤ kind.cache → requested ≡ kind.size

-- what the tag of a chunk of a kind depends on, by the chunk's number
abbrev pub shape_of_kind : ChunkKind → ℕ → Shape
shape_of_kind kind number =
    if nat_lt kind.cache CLASS_COUNT then shape_of_class kind.cache (bufctl_address number)
    else shape_of_cache kind.size (bufctl_address number)

-- the bytes of the buffer of such a chunk in whole words, and of the tag behind it
abbrev pub bytes_of_kind : ChunkKind → ℕ
bytes_of_kind kind = content_of kind.size + tag_of kind.guards

-- ---- chunks

-- a chunk of a kind is inside of one run
abbrev pub HoldsChunk : Memory → ChunkKind → Chunk → Type 0
HoldsChunk memory kind chunk = IsInRun (runs_of memory.space) chunk.address (bytes_of_kind kind)

-- a chunk of a slab that stands, with its number, and the kind of its cache's chunks
pub record IsChunkAt (kind : ChunkKind) (chunk : Chunk) (setting : Setting) (state : State) : Type 0 where
  pub its_kind : kind ≡ kind_in setting kind.cache
  pub slab : HeapSlab
  pub found : slab_with_chunk setting state.slabs chunk.address ≡ Some slab
  pub its_cache : slab.cache ≡ kind.cache
  pub its_number : chunk.number ≡ chunk_number setting slab chunk.address

-- the bytes of a list stand at an address now, and nothing else changed
abbrev pub WritesAt : Space → Space → ℕ → List ℕ → Type 0
WritesAt old new at bytes = Writes old new at (length bytes) (λ k. slice_index bytes k)

-- the byte at an offset of chunks that follow one another: each begins with the bytes of its list, and holds zeros
-- behind them
abbrev pub byte_of_chunks : ℕ → (ℕ → List ℕ) → ℕ → ℕ
byte_of_chunks chunk content offset = slice_index (content (offset / chunk)) (offset % chunk)

-- ---- slabs

-- the numbers of the slab's chunks have 32 bits
abbrev pub HasNumbers : NewSlab → Type 0
HasNumbers slab = slab.first + (geometry_of slab.kind.size slab.align slab.kind.guards).rounds ≤ 2 ^ 32

-- a slab is the next one that its cache makes
pub record IsNextSlab (slab : NewSlab) (setting : Setting) (state : State) : Type 0 where
  pub kind : slab.kind ≡ kind_in setting slab.kind.cache
  pub align : slab.align ≡ (cache_def_in setting slab.kind.cache).align
  pub made : slab.made ≡ grows_of state slab.kind.cache
  pub first : slab.first ≡ next_chunk setting state
