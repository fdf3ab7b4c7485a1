-- Ranges of numbers that have none in common, in order.
use Rattle.std.specs.Prelude.{◌≡◌, ℕ, suc, ◌<◌, ◌≤◌, Bool, ◌&&◌, List, [], ◌∷◌, length, true, Contains, nat_le, nat_lt, slice_index_or}
use Rattle.umem_base.specs.Ordered.{SplitsBy}
use Rattle.core_format.specs.declared.cache_shape.CacheShape.{CacheShape}
use Rattle.core_format.specs.declared.items.LargeItem.{LargeItem}
use Rattle.core_format.specs.declared.items.SlabItem.{SlabItem}
use Rattle.core_format.specs.declared.range.Range.{Range}
use Rattle.core_format.specs.Slabs.{large_end, past_chunks, slab_end}

-- each of them ends where the next one begins, or below
pub record AreRanges (ranges : List Range) : Type 0 where
  pub whole : (k : ℕ) (d : Range) → k < length ranges
      → (slice_index_or ranges k d).low ≤ (slice_index_or ranges k d).past
  pub apart : (i j : ℕ) (d : Range) → i < j → j < length ranges
      → (slice_index_or ranges i d).past ≤ (slice_index_or ranges j d).low

-- the range has one of the numbers from low to past
abbrev pub meets_range : ℕ → ℕ → Range → Bool
meets_range low past range = nat_lt range.low past && nat_lt low range.past

-- the range has the number
abbrev pub is_in_range : ℕ → Range → Bool
is_in_range number range = nat_le range.low number && nat_lt number range.past

-- a range of that owner has the number
abbrev pub IsOwnerOf : List Range → ℕ → ℕ → Type 0
IsOwnerOf ranges number owner =
    (range : Range) × Contains ranges range × (range.owner ≡ owner) × (is_in_range number range ≡ true)

-- numbers from low to past go in front of the range at the index
abbrev pub FitsBefore : List Range → ℕ → ℕ → ℕ → Type 0
FitsBefore ranges low past index = SplitsBy (λ range. range.past ≤ low) (λ range. past ≤ range.low) ranges index

-- the numbers of the chunks of slabs, each with the slab's index, counted from one on
abbrev pub chunk_ranges : List CacheShape → ℕ → List SlabItem → List Range
chunk_ranges shapes index [] = []
chunk_ranges shapes index (slab ∷ slabs) =
    record { low = slab.first; past = past_chunks shapes slab; owner = index } ∷ chunk_ranges shapes (suc index) slabs

-- the addresses of a slab's pages
abbrev pub slab_range : List CacheShape → SlabItem → Range
slab_range shapes slab = record { low = slab.base; past = slab_end shapes slab; owner = 0 }

-- those of a large buffer's
abbrev pub large_range : LargeItem → Range
large_range item = record { low = item.base; past = large_end item; owner = 0 }
