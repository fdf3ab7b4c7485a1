-- The bytes of the pages, by rising address over slabs and large buffers.
use Rattle.std.specs.Prelude.{ℕ, suc, ◌-◌, ◌*◌, List, [], ◌∷◌, ◌++◌, length, drop, Result, Ok, nat_lt, slice_index_or, if◌then◌else◌}
use Rattle.umem_base.specs.Pages.{pages_for}
use Rattle.umem_base.specs.declared.pages.TheConstants.{PAGE_BYTES}
use Rattle.core_format.specs.declared.cache_shape.CacheShape.{CacheShape}
use Rattle.core_format.specs.declared.items.LargeItem.{LargeItem}
use Rattle.core_format.specs.declared.items.SlabItem.{SlabItem}
use Rattle.core_format.specs.Reader.{Flaw, Reader, ◌>>=◌, bytes_at}
use Rattle.core_format.specs.Items.{items_at}
use Rattle.core_format.specs.Slabs.{shape_at}

-- how many of the large buffers stand below an address, one after the other
abbrev pub lower_count : ℕ → List LargeItem → ℕ
lower_count base [] = 0
lower_count base (item ∷ items) = if nat_lt item.base base then suc (lower_count base items) else 0

-- a large buffer with its bytes
unfoldable pub large_bytes_at : LargeItem → Reader → Result (LargeItem × Reader) Flaw
large_bytes_at item here = do
  bytes ← bytes_at (PAGE_BYTES * pages_for item.size) here
  Ok (record { base = item.base; size = item.size; bytes = bytes.0 }, bytes.1)

-- a slab with its bytes
unfoldable pub slab_bytes_at : List CacheShape → SlabItem → Reader → Result (SlabItem × Reader) Flaw
slab_bytes_at shapes slab here = do
  bytes ← bytes_at (PAGE_BYTES * (shape_at shapes slab.cache).pages) here
  Ok (record slab { bytes = bytes.0 }, bytes.1)

-- no large buffer
abbrev pub no_large : LargeItem
no_large = record { base = 0; size = 0; bytes = [] }

-- the next of the large buffers with its bytes
abbrev pub large_page_at : List LargeItem → List LargeItem → Reader → Result (LargeItem × Reader) Flaw
large_page_at large before here = large_bytes_at (slice_index_or large (length before) no_large) here

-- the slabs that are left and the large buffers with their bytes, behind those that have theirs: before each slab
-- stand the large buffers below it
unfoldable pub pages_at : List CacheShape → List LargeItem → List SlabItem → List SlabItem → List LargeItem → Reader
    → Result ((List SlabItem × List LargeItem) × Reader) Flaw
pages_at shapes large [] slabs before here = do
  upper ← items_at (large_page_at large) (length large - length before) before here
  Ok ((slabs, upper.0), upper.1)
pages_at shapes large (slab ∷ left) slabs before here = do
  lower ← items_at (large_page_at large) (lower_count slab.base (drop (length before) large)) before here
  own ← slab_bytes_at shapes slab lower.1
  pages_at shapes large left (slabs ++ own.0 ∷ []) lower.0 own.1
