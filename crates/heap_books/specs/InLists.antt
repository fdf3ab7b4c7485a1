-- The places that are taken where the given ones do not fit: each chunk that does not live in its slab's list.
use Rattle.std.specs.Prelude.{◌≡◌, ℕ, ◌+◌, ◌*◌, not, List, [], ◌∷◌, Contains, filter, map, if◌then◌else◌}
use Rattle.std.specs.List.{flat_map, range_with_len}
use Rattle.core_format.specs.declared.whole.Core.{Core}
use Rattle.core_rules.specs.Pieces.{empty_depots_of, empty_places_of}
use Rattle.plain_heap.specs.Setting.{Setting, geometry_in}
use Rattle.plain_heap.specs.State.{HeapSlab, State, chunk_start, is_live}
use Rattle.heap_ledger.specs.Ledger.{Ledger, run_setting, run_state}
use Rattle.heap_slabs.specs.declared.standing.Standing.{Standing}
use Rattle.heap_accounts.specs.Places.{cache_count}
use Rattle.heap_pictures.specs.declared.free_list.FreeList.{FreeList}
use Rattle.heap_pictures.specs.declared.free_places.FreePlaces.{FreePlaces}
use Rattle.heap_pictures.specs.Drawn.{AreListsOf, list_at}
use Rattle.heap_pictures.specs.Pictures.{Tells}

-- ---- lists

-- the numbers of a slab's chunks that do not live, rising
abbrev pub free_chunks : Setting → State → HeapSlab → List ℕ
free_chunks setting state slab =
    map (λ index. slab.first + index)
    (filter (λ index. not (is_live state (chunk_start setting slab index)))
    (range_with_len 0 (geometry_in setting slab.cache).rounds))

-- the chunk of that index of a slab as it stands, if it does not live
abbrev pub free_at : State → Standing → ℕ → List ℕ
free_at state slab index =
    if is_live state (slab.start + index * slab.chunk) then [] else (slab.first + index) ∷ []

-- those of all its chunks, with its base
abbrev pub free_list_of : State → Standing → FreeList
free_list_of state slab =
    record { base = slab.base; chunks = flat_map (free_at state slab) (range_with_len 0 slab.rounds) }

-- there is one list for each slab that stands, by rising base, and it has the numbers of all chunks that do not live
pub record AreFreeLists (setting : Setting) (state : State) (lists : List FreeList) : Type 0 where
  pub are : AreListsOf state lists
  pub each : (slab : HeapSlab) → Contains state.slabs slab → list_at lists slab.base ≡ free_chunks setting state slab

-- ---- places

-- each chunk that does not live stands in its slab's list, and all magazines are empty
pub record AreInLists (setting : Setting) (state : State) (places : FreePlaces) : Type 0 where
  pub cpu_places : places.cpu_places ≡ empty_places_of setting.header.cpus (cache_count setting)
  pub depots : places.depots ≡ empty_depots_of (cache_count setting)
  pub lists : AreFreeLists setting state places.lists

-- the core tells the run, and its free chunks stand so
pub record DrawnInLists (ledger : Ledger) (core : Core) : Type 0 where
  pub tells : Tells ledger (free_chunks (run_setting ledger) (run_state ledger)) core
  pub cpu_places : core.cpu_places ≡ empty_places_of ledger.plan.header.cpus (cache_count (run_setting ledger))
  pub depots : core.depots ≡ empty_depots_of (cache_count (run_setting ledger))
