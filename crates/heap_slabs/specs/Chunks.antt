-- The chunks of a state that are looked up, and those that are free.
use Rattle.std.specs.Prelude.{◌≡◌, ℕ, ◌<◌, ◌≤◌, Option, None, Contains}
use Rattle.std.specs.Option.{option_map}
use Rattle.plain_heap.specs.Setting.{Setting, geometry_in}
use Rattle.plain_heap.specs.State.{HeapSlab, State, chunk_number, held_at, new_slab, slab_with_chunk}
use Rattle.plain_heap.specs.Legal.{IsUnused}
use Rattle.heap_memory.specs.declared.chunk.Chunk.{Chunk}
use Rattle.heap_memory.specs.Laws.{chunk_of_slab}
use Rattle.heap_slabs.specs.declared.placed.Placed.{Placed}

-- ---- what is looked up

-- the chunk that begins at an address, if one does of a slab that stands, with its number and its slab's cache
abbrev pub placed_at : Setting → State → ℕ → Option Placed
placed_at setting state address =
    option_map (λ slab. record {
      chunk = record { address = address; number = chunk_number setting slab address };
      cache = slab.cache;
    }) (slab_with_chunk setting state.slabs address)

-- a chunk at its place in a slab that stands, with its number, and the slab's cache
pub record IsAtItsPlace (setting : Setting) (state : State) (placed : Placed) : Type 0 where
  pub slab : HeapSlab
  pub stands : Contains state.slabs slab
  pub index : ℕ
  pub within : index < (geometry_in setting slab.cache).rounds
  pub chunk : placed.chunk ≡ chunk_of_slab setting slab index
  pub cache : placed.cache ≡ slab.cache

-- no chunk of a slab that stands has the number
abbrev pub HasNoChunk : ℕ → Setting → State → Type 0
HasNoChunk number setting state =
    (placed : Placed) → IsAtItsPlace setting state placed → ¬ (placed.chunk.number ≡ number)

-- a chunk at its place, which has the number
abbrev pub IsNumberedAs : ℕ → Placed → Setting → State → Type 0
IsNumberedAs number placed setting state = IsAtItsPlace setting state placed × (placed.chunk.number ≡ number)

-- ---- what is free

-- no chunk lives of the slab that a cache makes next, at a base
abbrev pub IsNextUnused : ℕ → ℕ → Setting → State → Type 0
IsNextUnused cache base setting state = IsUnused setting state (new_slab setting state cache base)

-- nothing lives at an address
abbrev pub IsFreeAt : ℕ → Setting → State → Type 0
IsFreeAt address setting state = held_at state.live address ≡ None

-- a chunk of a slab of the cache that stands, which does not live
abbrev pub IsFreeChunk : ℕ → Chunk → Setting → State → Type 0
IsFreeChunk cache chunk setting state =
    IsAtItsPlace setting state (record { chunk = chunk; cache = cache }) × IsFreeAt chunk.address setting state

-- each chunk of the slabs of a cache lives that stand
abbrev pub HasNoFreeChunk : ℕ → Setting → State → Type 0
HasNoFreeChunk cache setting state = (chunk : Chunk) → ¬ IsFreeChunk cache chunk setting state

-- the free chunk of a cache that has the lowest number
pub record IsLowestFreeChunk (cache : ℕ) (chunk : Chunk) (setting : Setting) (state : State) : Type 0 where
  pub free : IsFreeChunk cache chunk setting state
  pub lowest : (other : Chunk) → IsFreeChunk cache other setting state → chunk.number ≤ other.number
