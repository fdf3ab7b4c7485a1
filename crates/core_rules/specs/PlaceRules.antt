-- The rules of magazines and depots.
use Rattle.std.specs.Prelude.{◌≡◌, ◌≢◌, ℕ, ◌*◌, ◌/◌, ◌%◌, ◌<◌, ◌≤◌, All, AllPairs, IsTrue, false, List, ◌++◌, length, slice_index_or}
use Rattle.std.specs.List.{flat_map}
use Rattle.core_format.specs.declared.items.CpuPlace.{CpuPlace}
use Rattle.core_format.specs.declared.items.DepotItem.{DepotItem}
use Rattle.core_format.specs.declared.limits.TheConstants.{MOST_FULL}
use Rattle.core_format.specs.declared.whole.Core.{Core}
use Rattle.core_format.specs.Chunks.{core_shapes}
use Rattle.core_format.specs.Magazines.{depot_rounds_of, is_chunk_of, is_listed, place_rounds}
use Rattle.core_format.specs.Slabs.{shape_at}

-- how many rounds a magazine of a cache has when it is full
abbrev pub magazine_size : Core → ℕ → ℕ
magazine_size core cache = (shape_at (core_shapes core) cache).magazine

-- each is a chunk of a slab of that cache
abbrev pub AreRoundsOf : Core → ℕ → List ℕ → Type 0
AreRoundsOf core cache rounds = All (λ chunk. IsTrue (is_chunk_of (core_shapes core) core.slabs cache chunk)) rounds

-- a magazine of a cache: no more rounds than it has room for, each of that cache
pub record IsMagazineOf (core : Core) (cache : ℕ) (rounds : List ℕ) : Type 0 where
  pub fits : length rounds ≤ magazine_size core cache
  pub own : AreRoundsOf core cache rounds

-- a full one has as many as it has room for
pub record IsFullMagazine (core : Core) (cache : ℕ) (rounds : List ℕ) : Type 0 where
  pub full : length rounds ≡ magazine_size core cache
  pub own : AreRoundsOf core cache rounds

-- the magazines of a CPU for a cache, which stand at that index: those of a CPU stand together, by cache
pub record KeepsPlaceRules (core : Core) (index : ℕ) (place : CpuPlace) : Type 0 where
  pub cpu : place.cpu ≡ index / length core.caches
  pub cache : place.cache ≡ index % length core.caches
  pub loaded : IsMagazineOf core place.cache place.loaded
  pub previous : IsMagazineOf core place.cache place.previous

-- the depot of a cache
pub record KeepsDepotRules (core : Core) (cache : ℕ) (depot : DepotItem) : Type 0 where
  pub few : length depot.full ≤ MOST_FULL
  pub full : All (IsFullMagazine core cache) depot.full

-- the chunks of all magazines, in the order of the core
abbrev pub all_rounds_of : Core → List ℕ
all_rounds_of core = flat_map place_rounds core.cpu_places ++ flat_map depot_rounds_of core.depots

-- there are two magazines for each CPU and cache and a depot for each cache, and no chunk stands in two places
pub record KeepsPlacesRules (core : Core) : Type 0 where
  pub many : length core.cpu_places ≡ core.cpus * length core.caches
  pub places : (index : ℕ) (d : CpuPlace) → index < length core.cpu_places
      → KeepsPlaceRules core index (slice_index_or core.cpu_places index d)
  pub many_depots : length core.depots ≡ length core.caches
  pub depots : (cache : ℕ) (d : DepotItem) → cache < length core.depots
      → KeepsDepotRules core cache (slice_index_or core.depots cache d)
  pub unlisted : All (λ chunk. is_listed core.slabs chunk ≡ false) (all_rounds_of core)
  pub once : AllPairs (λ chunk later. chunk ≢ later) (all_rounds_of core)
