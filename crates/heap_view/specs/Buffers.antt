-- The buffers of a core, allocated and free: its chunks, and its large buffers.
use Rattle.std.specs.Prelude.{ℕ, zero, suc, Bool, List, [], ◌∷◌, ◌++◌, map, filter, fold, Some, None, slice_get, unwrap_or}
use Rattle.std.specs.List.{flat_map}
use Rattle.std.specs.Option.{option_map}
use Rattle.umem_base.specs.Ordered.{put_by}
use Rattle.core_format.specs.declared.items.LargeItem.{LargeItem}
use Rattle.core_format.specs.declared.items.SlabItem.{SlabItem}
use Rattle.core_format.specs.declared.whole.Core.{Core}
use Rattle.core_format.specs.Chunks.{allocated_in, chunk_address, core_shapes, free_in}
use Rattle.core_format.specs.Slabs.{shape_at}
use Rattle.heap_view.specs.declared.buffer.Buffer.{Buffer}

-- so many numbers, from first on
abbrev pub numbers_from : ℕ → ℕ → List ℕ
numbers_from first zero = []
numbers_from first (suc count) = first ∷ numbers_from (suc first) count

-- the bytes of a cache's buffers, by its number
abbrev pub buffer_bytes : Core → ℕ → ℕ
buffer_bytes core cache = unwrap_or (option_map (λ item. item.def.size) (slice_get core.caches cache)) 0

-- what their addresses are multiples of
abbrev pub buffer_align : Core → ℕ → ℕ
buffer_align core cache = unwrap_or (option_map (λ item. item.def.align) (slice_get core.caches cache)) 0

-- the chunks of a slab
abbrev pub chunks_of : Core → SlabItem → List ℕ
chunks_of core slab = numbers_from slab.first (shape_at (core_shapes core) slab.cache).rounds

-- the buffer that a chunk of a slab is
abbrev pub chunk_buffer : Core → SlabItem → ℕ → Buffer
chunk_buffer core slab chunk = record {
  address = chunk_address (core_shapes core) slab chunk;
  size = buffer_bytes core slab.cache;
  cache = Some slab.cache;
  chunk = Some chunk;
}

-- the buffer that a large buffer's item tells
abbrev pub large_buffer : LargeItem → Buffer
large_buffer item = record { address = item.base; size = item.size; cache = None; chunk = None }

-- the chunks of a slab that pass a test
abbrev pub slab_buffers : Core → (ℕ → Bool) → SlabItem → List Buffer
slab_buffers core test slab = map (chunk_buffer core slab) (filter test (chunks_of core slab))

-- the chunks of all slabs that pass a test
abbrev pub chunk_buffers : Core → (ℕ → Bool) → List Buffer
chunk_buffers core test = flat_map (slab_buffers core test) core.slabs

-- the allocated buffers: the allocated chunks and the large buffers
abbrev pub allocated_buffers : Core → List Buffer
allocated_buffers core = chunk_buffers core (allocated_in core) ++ map large_buffer core.large

-- buffers by rising address
abbrev pub by_address : List Buffer → List Buffer
by_address buffers = fold (put_by (λ (b : Buffer). b.address)) [] buffers

-- the allocated buffers by rising address
unfoldable pub buffers_of : Core → List Buffer
buffers_of core = by_address (allocated_buffers core)

-- the free chunks by rising address
unfoldable pub free_buffers_of : Core → List Buffer
free_buffers_of core = by_address (chunk_buffers core (free_in core))
