-- The rules of slabs with their lists, and of large buffers, each with the bytes of its pages.
use Rattle.std.specs.Prelude.{◌≡◌, ◌⊎◌, ℕ, ◌*◌, ◌<◌, ◌≤◌, All, AllPairs, IsTrue, List, length}
use Rattle.umem_base.specs.declared.pages.TheConstants.{PAGE_BYTES}
use Rattle.umem_base.specs.Pages.{pages_for}
use Rattle.case_table.specs.declared.limits.TheConstants.{MOST_CACHE_BYTES}
use Rattle.core_format.specs.declared.cache_shape.CacheShape.{CacheShape}
use Rattle.core_format.specs.declared.items.LargeItem.{LargeItem}
use Rattle.core_format.specs.declared.items.SlabItem.{SlabItem}
use Rattle.core_format.specs.declared.whole.Core.{Core}
use Rattle.core_format.specs.Chunks.{core_shapes}
use Rattle.core_format.specs.SlabTable.{AreApart}
use Rattle.core_format.specs.Slabs.{ends_in_arena, is_arena_page, is_colour, large_end, past_chunks, shape_at, slab_end}
use Rattle.core_rules.specs.HeaderRules.{AreByteValues}

-- the chunk is one of the slab
pub record IsOfSlab (shapes : List CacheShape) (slab : SlabItem) (chunk : ℕ) : Type 0 where
  pub low : slab.first ≤ chunk
  pub high : chunk < past_chunks shapes slab

-- a slab's own rules: its pages stand in the arena, it is one of a cache, its colour is a multiple of the cache's
-- alignment and has room, its chunks have numbers that were given, and its list has some of them, rising
pub record KeepsSlabRules (core : Core) (slab : SlabItem) : Type 0 where
  pub base : IsTrue (is_arena_page core.version slab.base)
  pub cache : slab.cache < length core.caches
  pub ends : IsTrue (ends_in_arena core.version slab.base (shape_at (core_shapes core) slab.cache).pages)
  pub colour : IsTrue (is_colour (shape_at (core_shapes core) slab.cache) slab.colour)
  pub numbers : past_chunks (core_shapes core) slab ≤ core.next_chunk
  pub listed : length slab.free ≤ (shape_at (core_shapes core) slab.cache).rounds
  pub own : All (IsOfSlab (core_shapes core) slab) slab.free
  pub rising : AllPairs (λ chunk later. chunk < later) slab.free
  pub filled : length slab.bytes ≡ PAGE_BYTES * (shape_at (core_shapes core) slab.cache).pages
  pub bytes : AreByteValues slab.bytes

-- a slab stands before another one: it begins below, and ends where that one begins, or below
pub record IsSlabBefore (shapes : List CacheShape) (slab later : SlabItem) : Type 0 where
  pub rises : slab.base < later.base
  pub ends : slab_end shapes slab ≤ later.base

-- the slabs stand by rising base, apart, and no two of them have a chunk in common
pub record KeepSlabsRules (core : Core) : Type 0 where
  pub each : All (KeepsSlabRules core) core.slabs
  pub order : AllPairs (IsSlabBefore (core_shapes core)) core.slabs
  pub apart : AllPairs (AreApart (core_shapes core)) core.slabs

-- a large buffer's own rules: it is larger than any cache's, and its pages stand in the arena
pub record KeepsLargeRules (core : Core) (item : LargeItem) : Type 0 where
  pub base : IsTrue (is_arena_page core.version item.base)
  pub large : MOST_CACHE_BYTES < item.size
  pub ends : IsTrue (ends_in_arena core.version item.base (pages_for item.size))
  pub filled : length item.bytes ≡ PAGE_BYTES * pages_for item.size
  pub bytes : AreByteValues item.bytes

-- a large buffer stands before another one
pub record IsLargeBefore (item later : LargeItem) : Type 0 where
  pub rises : item.base < later.base
  pub ends : large_end item ≤ later.base

-- a slab and a large buffer have no page in common
abbrev pub ShareNoPage : List CacheShape → SlabItem → LargeItem → Type 0
ShareNoPage shapes slab item = (slab_end shapes slab ≤ item.base) ⊎ (large_end item ≤ slab.base)

-- the large buffers stand by rising base, apart from one another and from the slabs
pub record KeepLargeRules (core : Core) : Type 0 where
  pub each : All (KeepsLargeRules core) core.large
  pub order : AllPairs IsLargeBefore core.large
  pub apart : All (λ item. All (λ slab. ShareNoPage (core_shapes core) slab item) core.slabs) core.large
