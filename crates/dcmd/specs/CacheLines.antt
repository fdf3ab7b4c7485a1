-- What `::umem_cache` prints: a heading, and a line for each cache.
use Rattle.std.specs.Prelude.{ℕ, List, [], ◌∷◌, ◌++◌, ◌==◌, codes, length, nat_lt, if◌then◌else◌}
use Rattle.std.specs.List.{enumerate_from, flat_map, sum_by}
use Rattle.umem_base.specs.Numbers.{right_aligned}
use Rattle.case_table.specs.Addresses.{cache_address}
use Rattle.case_table.specs.declared.limits.TheConstants.{CLASS_COUNT}
use Rattle.umem_options.specs.Flags.{bits_of}
use Rattle.core_format.specs.declared.items.CacheItem.{CacheItem}
use Rattle.core_format.specs.declared.items.SlabItem.{SlabItem}
use Rattle.core_format.specs.declared.whole.Core.{Core}
use Rattle.heap_view.specs.Buffers.{chunks_of}
use Rattle.dcmd.specs.Columns.{left_aligned, line_of, padded_hexadecimal, right_decimal, right_hexadecimal}

-- the words over the columns, each placed as its column is
abbrev pub cache_heading : List ℕ
cache_heading =
    line_of (right_aligned 8 (codes "ADDR") ∷ left_aligned 25 (codes "NAME") ∷ right_aligned 4 (codes "FLAG")
    ∷ right_aligned 6 (codes "CFLAG") ∷ right_aligned 8 (codes "BUFSIZE") ∷ right_aligned 8 (codes "BUFTOTL") ∷ [])

-- 1 for a size class, and 0 for a declared cache
abbrev pub class_flag : ℕ → ℕ
class_flag cache = if nat_lt cache CLASS_COUNT then 1 else 0

-- the chunks of a slab, where it is one of the cache
abbrev pub chunks_for : Core → ℕ → SlabItem → ℕ
chunks_for core cache slab = if slab.cache == cache then length (chunks_of core slab) else 0

-- how many chunks the slabs of a cache have
abbrev pub chunk_count : Core → List SlabItem → ℕ → ℕ
chunk_count core slabs cache = sum_by (chunks_for core cache) slabs

-- the line of a cache that has so many chunks
abbrev pub counted_line : Core → ℕ → CacheItem → ℕ → List ℕ
counted_line core cache item count =
    line_of (right_hexadecimal 8 (cache_address cache) ∷ left_aligned 25 item.def.name
    ∷ padded_hexadecimal 4 (bits_of core.flags) ∷ padded_hexadecimal 6 (class_flag cache)
    ∷ right_decimal 8 item.def.size ∷ right_decimal 8 count ∷ [])

-- the line of a cache, by its number
abbrev pub cache_line : Core → ℕ × CacheItem → List ℕ
cache_line core entry = counted_line core entry.0 entry.1 (chunk_count core core.slabs entry.0)

-- the heading and the lines
unfoldable pub cache_text : Core → List ℕ
cache_text core = cache_heading ++ flat_map (cache_line core) (enumerate_from 0 core.caches)
