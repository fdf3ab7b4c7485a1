-- When given places of the free chunks fit a run.
use Rattle.std.specs.Prelude.{◌≡◌, ◌≢◌, ℕ, ◌+◌, ◌*◌, ◌/◌, ◌%◌, ◌<◌, ◌≤◌, ◌↔◌, List, ◌++◌, Some, All, AllPairs, Contains, length, option_map, slice_index_or}
use Rattle.std.specs.List.{flat_map}
use Rattle.std.specs.List.Sorted.{IsStrictlyIncreasing}
use Rattle.umem_options.specs.Limits.{IsLogging, IsOptions}
use Rattle.depot.specs.declared.depot.TheConstants.{MAGAZINES}
use Rattle.core_format.specs.declared.items.CpuPlace.{CpuPlace}
use Rattle.core_format.specs.declared.items.DepotItem.{DepotItem}
use Rattle.core_format.specs.declared.whole.Core.{Core}
use Rattle.core_format.specs.Magazines.{depot_rounds_of, place_rounds}
use Rattle.plain_heap.specs.Setting.{Setting, geometry_in}
use Rattle.plain_heap.specs.State.{HeapSlab, State}
use Rattle.heap_ledger.specs.Ledger.{IsLedger, Ledger, run_setting, run_state}
use Rattle.heap_accounts.specs.FreeChunks.{IsFreeRound}
use Rattle.heap_accounts.specs.Places.{cache_count, slab_with_number}
use Rattle.heap_pictures.specs.declared.free_list.FreeList.{FreeList}
use Rattle.heap_pictures.specs.declared.free_places.FreePlaces.{FreePlaces}
use Rattle.heap_pictures.specs.Drawn.{AreListsOf, list_at}
use Rattle.heap_pictures.specs.Pictures.{DrawnWith, Pictures}

-- ---- numbers

-- the numbers in lists
abbrev pub listed_in : List FreeList → List ℕ
listed_in lists = flat_map (λ list. list.chunks) lists

-- the numbers in the magazines of CPUs and depots
abbrev pub in_magazines : List CpuPlace → List DepotItem → List ℕ
in_magazines places depots = flat_map place_rounds places ++ flat_map depot_rounds_of depots

-- all numbers that stand at these places
abbrev pub numbers_in : FreePlaces → List ℕ
numbers_in places = in_magazines places.cpu_places places.depots ++ listed_in places.lists

-- the number is that of a chunk which does not live, of a slab of some cache that stands
abbrev pub IsFreeNumber : Setting → State → ℕ → Type 0
IsFreeNumber setting state chunk = (cache : ℕ) × IsFreeRound setting state cache chunk

-- each number is that of a chunk of a slab of the cache that stands
abbrev pub AreOfCache : Setting → State → ℕ → List ℕ → Type 0
AreOfCache setting state cache chunks =
    All (λ chunk. option_map (λ slab. slab.cache) (slab_with_number setting state.slabs chunk) ≡ Some cache) chunks

-- ---- places that fit

-- a list of a slab rises, and each number in it is that of one of the slab's chunks
pub record IsListFor (setting : Setting) (slab : HeapSlab) (chunks : List ℕ) : Type 0 where
  pub rising : IsStrictlyIncreasing chunks
  pub own : All (λ chunk. (slab.first ≤ chunk) × (chunk < slab.first + (geometry_in setting slab.cache).rounds)) chunks

-- a magazine of a cache has no more numbers than it has room for, each of that cache
pub record IsMagazineFor (setting : Setting) (state : State) (cache : ℕ) (chunks : List ℕ) : Type 0 where
  pub few : length chunks ≤ (geometry_in setting cache).magazine
  pub own : AreOfCache setting state cache chunks

-- a full one has as many as it has room for
pub record IsFullFor (setting : Setting) (state : State) (cache : ℕ) (chunks : List ℕ) : Type 0 where
  pub full : length chunks ≡ (geometry_in setting cache).magazine
  pub own : AreOfCache setting state cache chunks

-- the magazines at an index are those of the CPU and the cache of that index, the caches of a CPU together
pub record IsPlaceFor (setting : Setting) (state : State) (index : ℕ) (place : CpuPlace) : Type 0 where
  pub cpu : place.cpu ≡ index / cache_count setting
  pub cache : place.cache ≡ index % cache_count setting
  pub loaded : IsMagazineFor setting state place.cache place.loaded
  pub previous : IsMagazineFor setting state place.cache place.previous

-- the depot of a cache has at most eight full magazines
pub record IsDepotFor (setting : Setting) (state : State) (cache : ℕ) (depot : DepotItem) : Type 0 where
  pub few : length depot.full ≤ MAGAZINES
  pub full : All (IsFullFor setting state cache) depot.full

-- there are magazines for each CPU and cache
pub record AreCpuPlacesFor (setting : Setting) (state : State) (places : List CpuPlace) : Type 0 where
  pub many : length places ≡ setting.header.cpus * cache_count setting
  pub each : (index : ℕ) (d : CpuPlace) → index < length places
      → IsPlaceFor setting state index (slice_index_or places index d)

-- there is a depot for each cache
pub record AreDepotsFor (setting : Setting) (state : State) (depots : List DepotItem) : Type 0 where
  pub many : length depots ≡ cache_count setting
  pub each : (cache : ℕ) (d : DepotItem) → cache < length depots
      → IsDepotFor setting state cache (slice_index_or depots cache d)

-- there is a list for each slab that stands, by rising base
pub record AreListsFor (setting : Setting) (state : State) (lists : List FreeList) : Type 0 where
  pub are : AreListsOf state lists
  pub each : (slab : HeapSlab) → Contains state.slabs slab → IsListFor setting slab (list_at lists slab.base)

-- The places fit what a run left: the magazines, the depots and the lists are those of its CPUs, caches and slabs; no
-- number stands twice; and a number stands somewhere exactly where it is that of a chunk which does not live. So the
-- core with these places keeps the rules of cores, and its allocated chunks are those that live.
pub record FitRun (setting : Setting) (state : State) (places : FreePlaces) : Type 0 where
  pub cpu_places : AreCpuPlacesFor setting state places.cpu_places
  pub depots : AreDepotsFor setting state places.depots
  pub lists : AreListsFor setting state places.lists
  pub once : AllPairs (λ one other. one ≢ other) (numbers_in places)
  pub free : (chunk : ℕ) → Contains (numbers_in places) chunk ↔ IsFreeNumber setting state chunk

-- ---- what follows

-- a core that tells a run with places that fit pictures the run
abbrev pub FittingPlacesPicture : Type 0
FittingPlacesPicture =
    (ledger : Ledger) (places : FreePlaces) (core : Core) → IsLedger ledger → IsOptions ledger.options
    → IsLogging ledger.logging → FitRun (run_setting ledger) (run_state ledger) places → DrawnWith ledger places core
    → Pictures ledger core
