-- What a table of slabs is seen as, and when it is that of a state.
use Rattle.std.specs.Prelude.{◌≡◌, ℕ, ◌+◌, ◌*◌, ◌^◌, ◌<◌, ◌≤◌, ◌⊎◌, ◌↔◌, false, None, List, length, map, slice_index_or, count_by, All, Contains}
use Rattle.std.specs.List.{range_with_len}
use Rattle.umem_base.specs.declared.pages.TheConstants.{PAGE_BYTES}
use Rattle.case_table.specs.declared.limits.TheConstants.{CLASS_COUNT}
use Rattle.case_table.specs.declared.slab_quantities.Geometry.{Geometry}
use Rattle.case_table.specs.Geometry.{IsAlign, colour_of, geometry_of}
use Rattle.heap_ledger.specs.declared.slab_at.SlabAt.{SlabAt}
use Rattle.plain_heap.specs.Setting.{Setting, cache_def_in, geometry_in}
use Rattle.plain_heap.specs.State.{HeapSlab, State, chunk_start, grows_of, is_live, next_chunk, start_state}
use Rattle.heap_memory.specs.declared.new_slab.NewSlab.{NewSlab}
use Rattle.heap_memory.specs.Chunks.{IsKind, kind_in}
use Rattle.heap_slabs.specs.declared.cache_slabs.CacheSlabs.{CacheSlabs}
use Rattle.heap_slabs.specs.declared.standing.Standing.{Standing}
use Rattle.heap_slabs.specs.Standing.{AreStanding, chunks_end}

-- what each cache's slabs are made of and how many it made, by its number; the number of the next chunk; the slabs that
-- stand, by rising base; those that the last reap gave back; and for how many more there is room
pub record HeapSlabs : Type 0 where
  pub caches : List CacheSlabs
  pub next : ℕ
  pub slabs : List Standing
  pub reaped : List SlabAt
  pub spare : ℕ

-- ---- one cache

-- what is looked up where no cache is
abbrev pub no_slabs : CacheSlabs
no_slabs = record { kind = record { cache = 0; size = 8; ctor = None; guards = false }; align = 8; made = 0 }

-- the slabs of a cache
abbrev pub slabs_of : List CacheSlabs → ℕ → CacheSlabs
slabs_of caches cache = slice_index_or caches cache no_slabs

-- the quantities of a cache's slabs
abbrev pub quantities_of : CacheSlabs → Geometry
quantities_of its = geometry_of its.kind.size its.align its.kind.guards

-- chunks may be of the kind and the alignment, and no cache made more slabs than there are chunks
pub record AreCacheSlabs (next : ℕ) (its : CacheSlabs) : Type 0 where
  pub kind : IsKind its.kind
  pub align : IsAlign its.align
  pub made : its.made ≤ next

-- ---- the slab that is made next

-- the slab that a cache makes next
abbrev pub next_slab_of : HeapSlabs → ℕ → NewSlab
next_slab_of table cache =
    let its = slabs_of table.caches cache in
    record { kind = its.kind; align = its.align; made = its.made; first = table.next }

-- that slab at a base, as it stands when it is made
abbrev pub slab_made : CacheSlabs → ℕ → ℕ → ℕ → Standing
slab_made its cache first base =
    let quantities = quantities_of its in
    record {
      cache = cache;
      base = base;
      first = first;
      start = base + colour_of its.align quantities.leftover its.made;
      chunk = quantities.chunk;
      rounds = quantities.rounds;
      live = 0;
    }

-- so many bytes from a base on are no slab's
abbrev pub IsClear : List Standing → ℕ → ℕ → Type 0
IsClear slabs base bytes = All (λ slab. (base + bytes ≤ slab.base) ⊎ (chunks_end slab ≤ base)) slabs

-- a slab of a cache may be made at a base: its pages have addresses of 64 bits and are no other slab's, and its chunks
-- have numbers of 32 bits
pub record HasPlace (table : HeapSlabs) (cache base : ℕ) : Type 0 where
  pub below : base + PAGE_BYTES * (quantities_of (slabs_of table.caches cache)).pages < 2 ^ 64
  pub clear : IsClear table.slabs base (PAGE_BYTES * (quantities_of (slabs_of table.caches cache)).pages)
  pub numbers : table.next + (quantities_of (slabs_of table.caches cache)).rounds < 2 ^ 32

-- ---- tables

-- a slab that stands is one of a cache, and its chunks have numbers below the next
pub record IsOfCaches (caches next : ℕ) (slab : Standing) : Type 0 where
  pub cache : slab.cache < caches
  pub below : slab.first + slab.rounds ≤ next

-- what each table keeps
pub record IsTable (table : HeapSlabs) : Type 0 where
  pub caches : All (AreCacheSlabs table.next) table.caches
  pub slabs : AreStanding table.slabs
  pub each : All (IsOfCaches (length table.caches) table.next) table.slabs

-- ---- tables of states

-- how many chunks of a slab live
abbrev pub live_chunks : Setting → State → HeapSlab → ℕ
live_chunks setting state slab =
    count_by (λ index. is_live state (chunk_start setting slab index))
    (range_with_len 0 (geometry_in setting slab.cache).rounds)

-- a slab of a state, as it stands in a table
abbrev pub standing_in : Setting → State → HeapSlab → Standing
standing_in setting state slab =
    let quantities = geometry_in setting slab.cache in
    record {
      cache = slab.cache;
      base = slab.base;
      first = slab.first;
      start = chunk_start setting slab 0;
      chunk = quantities.chunk;
      rounds = quantities.rounds;
      live = live_chunks setting state slab;
    }

-- a slab of a state by its cache and its base alone
abbrev pub heap_slab_at : HeapSlab → SlabAt
heap_slab_at slab = record { cache = slab.cache; base = slab.base }

-- these are exactly the slabs of a state
abbrev pub AreStandingIn : State → List SlabAt → Type 0
AreStandingIn state slabs = (one : SlabAt) → Contains slabs one ↔ Contains (map heap_slab_at state.slabs) one

-- the slabs of a cache in a state
abbrev pub cache_slabs_in : Setting → State → ℕ → CacheSlabs
cache_slabs_in setting state cache = record {
  kind = kind_in setting cache;
  align = (cache_def_in setting cache).align;
  made = grows_of state cache;
}

-- each of these caches is that of the setting, and made as many slabs as in a state
abbrev pub AreCachesOf : Setting → State → List CacheSlabs → Type 0
AreCachesOf setting state caches =
    (cache : ℕ) → cache < length caches → slabs_of caches cache ≡ cache_slabs_in setting state cache

-- these are the first caches of a setting, of which none made a slab
abbrev pub AreFirst : Setting → List CacheSlabs → Type 0
AreFirst setting caches = AreCachesOf setting start_state caches

-- these are exactly the slabs of a state, each with as many live chunks
abbrev pub AreStandingSlabs : Setting → State → List Standing → Type 0
AreStandingSlabs setting state slabs =
    (one : Standing) → Contains slabs one ↔ Contains (map (standing_in setting state) state.slabs) one

-- The table is that of a state: each cache is that of the setting and made as many slabs as in the state, the next
-- chunk is that of the state, and the slabs are exactly those that stand in the state, with as many live chunks each.
pub record IsTableOf (setting : Setting) (state : State) (table : HeapSlabs) : Type 0 where
  pub count : length table.caches ≡ CLASS_COUNT + length setting.header.caches
  pub caches : AreCachesOf setting state table.caches
  pub next : table.next ≡ next_chunk setting state
  pub slabs : AreStandingSlabs setting state table.slabs
