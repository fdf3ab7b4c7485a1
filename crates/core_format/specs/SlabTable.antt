-- The slabs that were read, where each chunk number is looked up among theirs.
use Rattle.std.specs.Prelude.{◌≡◌, ◌≢◌, ℕ, ◌<◌, ◌≤◌, ◌⊎◌, true, false, List, length, map, slice_index, slice_index_or, IsPermutation, unwrap_or, ◌^◌}
use Rattle.core_format.specs.declared.cache_shape.CacheShape.{CacheShape}
use Rattle.core_format.specs.declared.items.SlabItem.{SlabItem}
use Rattle.core_format.specs.declared.range.Range.{Range}
use Rattle.core_format.specs.Ranges.{chunk_ranges, slab_range}
use Rattle.core_format.specs.Slabs.{holds_chunk, meets_chunks, past_chunks, slab_end}
use Rattle.core_format.specs.Items.{last_of_list}
use Rattle.std.specs.List.{list_any}
use Rattle.std.specs.Option.{option_map}

-- what the slabs of the caches are like, and the slabs so far
pub record SlabTable : Type 0 where
  pub shapes : List CacheShape
  pub slabs : List SlabItem

-- the numbers rise, from first on and below past
pub record IsRisingWithin (first past : ℕ) (numbers : List ℕ) : Type 0 where
  pub rising : (i j : ℕ) → i < j → j < length numbers → slice_index numbers i < slice_index numbers j
  pub low : (i : ℕ) → i < length numbers → first ≤ slice_index numbers i
  pub high : (i : ℕ) → i < length numbers → slice_index numbers i < past

-- the slab's list has chunks of the slab alone, in order
abbrev pub HasOwnList : List CacheShape → SlabItem → Type 0
HasOwnList shapes slab = IsRisingWithin slab.first (past_chunks shapes slab) slab.free

-- two slabs have no chunk in common
abbrev pub AreApart : List CacheShape → SlabItem → SlabItem → Type 0
AreApart shapes slab other = (past_chunks shapes slab ≤ other.first) ⊎ (past_chunks shapes other ≤ slab.first)

-- no two of the slabs have a chunk in common, each has its own list, and the ranges are those of their chunks
-- and of their pages
pub record IsIndexed (shapes : List CacheShape) (slabs : List SlabItem) (ranges pages : List Range) : Type 0 where
  pub ranges_are : IsPermutation (chunk_ranges shapes 0 slabs) ranges
  pub pages_are : pages ≡ map (slab_range shapes) slabs
  pub apart : (i j : ℕ) (d : SlabItem) → i < j → j < length slabs
      → AreApart shapes (slice_index_or slabs i d) (slice_index_or slabs j d)
  pub lists : (i : ℕ) (d : SlabItem) → i < length slabs → HasOwnList shapes (slice_index_or slabs i d)

-- the slab at that index is the one that has the chunk
pub record OwnsChunk (table : SlabTable) (chunk index : ℕ) : Type 0 where
  pub within : index < length table.slabs
  pub has : (d : SlabItem) → holds_chunk table.shapes chunk (slice_index_or table.slabs index d) ≡ true
  pub others : (j : ℕ) (d : SlabItem) → j < length table.slabs → j ≢ index
      → holds_chunk table.shapes chunk (slice_index_or table.slabs j d) ≡ false

-- the slab may stand behind those of the table: it has none of their chunks and its own list, and begins where the
-- last one ends, or above
pub record FitsTable (table : SlabTable) (slab : SlabItem) : Type 0 where
  pub free : list_any (meets_chunks table.shapes slab.first (past_chunks table.shapes slab)) table.slabs ≡ false
  pub list : HasOwnList table.shapes slab
  pub behind : unwrap_or (option_map (slab_end table.shapes) (last_of_list table.slabs)) 0 ≤ slab.base
  pub within : slab_end table.shapes slab < 2 ^ 63
