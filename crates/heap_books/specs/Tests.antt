-- The tests that tell whether given places fit a run.
use Rattle.std.specs.Prelude.{◌≡◌, ◌≢◌, ℕ, ◌+◌, ◌/◌, ◌%◌, ◌<◌, ◌↔◌, Bool, false, ◌&&◌, ◌==◌, List, All, AllPairs, Contains, length, nat_le, nat_lt, slice_index_or}
use Rattle.std.specs.List.{list_all}
use Rattle.std.specs.List.Sorted.{IsStrictlyIncreasing}
use Rattle.std.specs.Option.{option_map_or}
use Rattle.depot.specs.declared.depot.TheConstants.{MAGAZINES}
use Rattle.core_format.specs.declared.items.CpuPlace.{CpuPlace}
use Rattle.core_format.specs.declared.items.DepotItem.{DepotItem}
use Rattle.plain_heap.specs.Setting.{Setting, geometry_in}
use Rattle.plain_heap.specs.State.{State}
use Rattle.heap_slabs.specs.declared.standing.Standing.{Standing}
use Rattle.heap_slabs.specs.Standing.{HasNumber}
use Rattle.heap_accounts.specs.Places.{cache_count, slab_with_number}
use Rattle.heap_pictures.specs.declared.free_list.FreeList.{FreeList}

-- ---- magazines

-- the number is that of a chunk of a slab of the cache that stands
abbrev pub is_cache_number : Setting → State → ℕ → ℕ → Bool
is_cache_number setting state cache chunk =
    option_map_or (λ slab. slab.cache == cache) (slab_with_number setting state.slabs chunk) false

-- a magazine of a cache, and a full one
abbrev pub is_magazine : Setting → State → ℕ → List ℕ → Bool
is_magazine setting state cache chunks =
    nat_le (length chunks) (geometry_in setting cache).magazine && list_all (is_cache_number setting state cache) chunks

abbrev pub is_full : Setting → State → ℕ → List ℕ → Bool
is_full setting state cache chunks =
    (length chunks == (geometry_in setting cache).magazine) && list_all (is_cache_number setting state cache) chunks

-- the magazines of the CPU and the cache of an index
abbrev pub is_cpu_place : Setting → State → ℕ → CpuPlace → Bool
is_cpu_place setting state index place =
    (place.cpu == index / cache_count setting) && (place.cache == index % cache_count setting)
    && is_magazine setting state place.cache place.loaded && is_magazine setting state place.cache place.previous

-- the depot of a cache
abbrev pub is_depot : Setting → State → ℕ → DepotItem → Bool
is_depot setting state cache depot =
    nat_le (length depot.full) MAGAZINES && list_all (is_full setting state cache) depot.full

-- ---- lists

-- the number is that of one of a slab's chunks
abbrev pub is_own : Standing → ℕ → Bool
is_own slab chunk = nat_le slab.first chunk && nat_lt chunk (slab.first + slab.rounds)

-- the list of a slab as it stands
pub record IsListAt (slab : Standing) (list : FreeList) : Type 0 where
  pub base : list.base ≡ slab.base
  pub rising : IsStrictlyIncreasing list.chunks
  pub own : All (λ chunk. HasNumber chunk slab) list.chunks

-- there is one for each of the slabs as they stand, in their order
abbrev pub AreListsAt : List Standing → List FreeList → Type 0
AreListsAt standing lists =
    (length lists ≡ length standing)
    × ((index : ℕ) (d : Standing) (e : FreeList) → index < length lists
    → IsListAt (slice_index_or standing index d) (slice_index_or lists index e))

-- ---- numbers

-- no number stands twice in the first, and in both stand the same
pub record StandOnceIn (numbers others : List ℕ) : Type 0 where
  pub once : AllPairs (λ one other. one ≢ other) numbers
  pub same : (chunk : ℕ) → Contains numbers chunk ↔ Contains others chunk
