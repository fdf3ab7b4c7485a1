-- How the slabs, the large buffers and the caches of a core that meets the rules stand to one another.
use Rattle.std.specs.Prelude.{◌≡◌, ℕ, ◌+◌, ◌*◌, ◌<◌, ◌≤◌, ◌⊎◌, List, length, map, All, AllPairs, IsTrue, slice_index_or}
use Rattle.umem_base.specs.declared.arena.TheConstants.{ARENA_BASE}
use Rattle.umem_base.specs.declared.pages.TheConstants.{PAGE_BYTES}
use Rattle.umem_base.specs.declared.roots.TheConstants.{ROOT_WORDS}
use Rattle.umem_base.specs.Pages.{pages_for}
use Rattle.umem_base.specs.Roots.{arena_end}
use Rattle.case_table.specs.Geometry.{IsCacheShape, content_of, geometry_of, tag_of}
use Rattle.case_table.specs.declared.slab_quantities.Geometry.{Geometry}
use Rattle.case_table.specs.declared.limits.TheConstants.{MOST_CACHE_BYTES, MOST_THREADS}
use Rattle.core_format.specs.declared.cache_shape.CacheShape.{CacheShape}
use Rattle.core_format.specs.declared.items.AuditItem.{AuditItem}
use Rattle.core_format.specs.declared.items.CacheItem.{CacheItem}
use Rattle.core_format.specs.declared.items.LargeItem.{LargeItem}
use Rattle.core_format.specs.declared.items.OwnRoot.{OwnRoot}
use Rattle.core_format.specs.declared.items.SlabItem.{SlabItem}
use Rattle.core_format.specs.declared.whole.Core.{Core}
use Rattle.core_format.specs.Caches.{is_size_of}
use Rattle.core_format.specs.Chunks.{core_shapes, is_guarded_core}
use Rattle.core_format.specs.Slabs.{large_end, past_chunks, shape_at, slab_end}
use Rattle.heap_view.specs.Buffers.{buffer_align, buffer_bytes}

-- a cache has a size and an alignment that a cache may have
abbrev pub IsSoundCache : CacheItem → Type 0
IsSoundCache item = IsCacheShape item.def.size item.def.align

-- each cache has a size that its number allows
abbrev pub AreSized : List CacheItem → Type 0
AreSized caches = (cache : ℕ) (d : CacheItem) → cache < length caches
    → IsTrue (is_size_of cache (slice_index_or caches cache d).def.size)

-- a slab stands in the arena, is one of a cache, has room for its colour, has numbers that chunks have, and has the
-- bytes of its pages
pub record IsSoundSlab (core : Core) (slab : SlabItem) : Type 0 where
  pub in_arena : ARENA_BASE ≤ slab.base
  pub ends : slab_end (core_shapes core) slab ≤ arena_end core.version
  pub of_cache : slab.cache < length core.caches
  pub coloured : slab.colour ≤ (shape_at (core_shapes core) slab.cache).leftover
  pub numbered : past_chunks (core_shapes core) slab ≤ core.next_chunk
  pub filled : length slab.bytes ≡ PAGE_BYTES * (shape_at (core_shapes core) slab.cache).pages

-- a large buffer stands in the arena, is larger than any cache's, and has the bytes of its pages
pub record IsSoundLarge (core : Core) (item : LargeItem) : Type 0 where
  pub in_arena : ARENA_BASE ≤ item.base
  pub ends : large_end item ≤ arena_end core.version
  pub large : MOST_CACHE_BYTES < item.size
  pub filled : length item.bytes ≡ PAGE_BYTES * pages_for item.size

-- a slab ends where another one begins, or below
abbrev pub IsSlabBelow : List CacheShape → SlabItem → SlabItem → Type 0
IsSlabBelow shapes lower upper = slab_end shapes lower ≤ upper.base

-- so does a large buffer
abbrev pub IsLargeBelow : LargeItem → LargeItem → Type 0
IsLargeBelow lower upper = large_end lower ≤ upper.base

-- a slab and a large buffer have no page in common
abbrev pub AreSlabAndLargeApart : List CacheShape → SlabItem → LargeItem → Type 0
AreSlabAndLargeApart shapes slab item = (slab_end shapes slab ≤ item.base) ⊎ (large_end item ≤ slab.base)

-- no chunk is one of both slabs: the chunks of the one are numbered below those of the other, or above
abbrev pub AreNumberedApart : List CacheShape → SlabItem → SlabItem → Type 0
AreNumberedApart shapes slab other = (past_chunks shapes slab ≤ other.first) ⊎ (past_chunks shapes other ≤ slab.first)

-- the first audit is of a chunk with a lower number
abbrev pub IsAuditBelow : AuditItem → AuditItem → Type 0
IsAuditBelow lower upper = lower.chunk < upper.chunk

-- the own segment of a thread has the words of a page
abbrev pub IsWholeSegment : OwnRoot → Type 0
IsWholeSegment own = length own.words ≡ ROOT_WORDS

-- each cache, slab and large buffer is sound, slabs and large buffers rise, no two have a page in common and no two
-- slabs a chunk, each root segment is whole, no more threads than there may be have one of their own, and the audits
-- rise by chunk
pub record IsLaidOut (core : Core) : Type 0 where
  pub caches : All IsSoundCache core.caches
  pub sized : AreSized core.caches
  pub slabs : All (IsSoundSlab core) core.slabs
  pub large : All (IsSoundLarge core) core.large
  pub slabs_rise : AllPairs (IsSlabBelow (core_shapes core)) core.slabs
  pub large_rise : AllPairs IsLargeBelow core.large
  pub apart : All (λ slab. All (AreSlabAndLargeApart (core_shapes core) slab) core.large) core.slabs
  pub numbers_apart : AllPairs (AreNumberedApart (core_shapes core)) core.slabs
  pub root : length core.root ≡ ROOT_WORDS
  pub own : length core.own ≤ MOST_THREADS
  pub own_words : All IsWholeSegment core.own
  pub audits_rise : AllPairs IsAuditBelow core.audits

-- the quantities of the slabs of a cache, by its number
abbrev pub core_geometry : Core → ℕ → Geometry
core_geometry core cache = geometry_of (buffer_bytes core cache) (buffer_align core cache) (is_guarded_core core)

-- the same, by the cache's item
abbrev pub item_geometry : Core → CacheItem → Geometry
item_geometry core item = geometry_of item.def.size item.def.align (is_guarded_core core)

-- those of each cache, by their numbers
abbrev pub geometries_of : Core → List Geometry
geometries_of core = map (item_geometry core) core.caches

-- what holds of the quantities of the slabs of a cache of the core
pub record IsShapeIn (core : Core) (cache : ℕ) (g : Geometry) : Type 0 where
  pub chunk : (shape_at (core_shapes core) cache).chunk ≡ g.chunk
  pub pages : (shape_at (core_shapes core) cache).pages ≡ g.pages
  pub rounds : (shape_at (core_shapes core) cache).rounds ≡ g.rounds
  pub leftover : (shape_at (core_shapes core) cache).leftover ≡ g.leftover
  pub size_some : 0 < buffer_bytes core cache
  pub size_fits : buffer_bytes core cache ≤ g.chunk
  pub tagged : content_of (buffer_bytes core cache) + tag_of (is_guarded_core core) ≤ g.chunk
  pub chunk_some : 0 < g.chunk
  pub chunk_small : g.chunk ≤ 4160
  pub pages_small : g.pages ≤ 9
  pub rounds_small : g.rounds ≤ 512
  pub filled : g.rounds * g.chunk + g.leftover ≡ g.pages * PAGE_BYTES
