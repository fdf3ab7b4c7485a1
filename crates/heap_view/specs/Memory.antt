-- What stands in the pages of a core: bytes at an address, the words of a buffer, and the words of the roots.
use Rattle.std.specs.Prelude.{ℕ, ◌-◌, ◌/◌, Bool, ◌&&◌, ◌≤◌, List, [], ◌++◌, drop, replicate, find, Option, nat_le, nat_lt, unwrap_or, length}
use Rattle.std.specs.List.{flat_map}
use Rattle.std.specs.Option.{option_map}
use Rattle.case_table.specs.Record.{numbers_at}
use Rattle.core_format.specs.declared.cache_shape.CacheShape.{CacheShape}
use Rattle.core_format.specs.declared.items.LargeItem.{LargeItem}
use Rattle.core_format.specs.declared.items.OwnRoot.{OwnRoot}
use Rattle.core_format.specs.declared.items.SlabItem.{SlabItem}
use Rattle.core_format.specs.declared.whole.Core.{Core}
use Rattle.core_format.specs.Chunks.{core_shapes}
use Rattle.core_format.specs.Slabs.{large_end, slab_end}
use Rattle.heap_view.specs.declared.buffer.Buffer.{Buffer}

-- the address is that of a byte of the slab
abbrev pub is_in_slab : List CacheShape → ℕ → SlabItem → Bool
is_in_slab shapes address slab = nat_le slab.base address && nat_lt address (slab_end shapes slab)

-- the address is that of a byte of the large buffer's pages
abbrev pub is_in_large : ℕ → LargeItem → Bool
is_in_large address item = nat_le item.base address && nat_lt address (large_end item)

-- the slab that has the address
abbrev pub slab_at : Core → ℕ → Option SlabItem
slab_at core address = find (is_in_slab (core_shapes core) address) core.slabs

-- the large buffer that has it
abbrev pub large_at : Core → ℕ → Option LargeItem
large_at core address = find (is_in_large address) core.large

-- the bytes of a large buffer's pages from the address on, if one has it
abbrev pub large_bytes_from : Core → ℕ → List ℕ
large_bytes_from core address =
    unwrap_or (option_map (λ item. drop (address - item.base) item.bytes) (large_at core address)) []

-- the bytes from the address on, to the end of its slab or of its large buffer's pages
abbrev pub core_bytes_from : Core → ℕ → List ℕ
core_bytes_from core address =
    unwrap_or (option_map (λ slab. drop (address - slab.base) slab.bytes) (slab_at core address))
    (large_bytes_from core address)

-- the bytes of a buffer stand in its slab, or in its pages
abbrev pub HasAllBytes : Core → Buffer → Type 0
HasAllBytes core buffer = buffer.size ≤ length (core_bytes_from core buffer.address)

-- how many whole words a buffer has
abbrev pub word_count : Buffer → ℕ
word_count buffer = buffer.size / 8

-- the whole words of a buffer, from its start on
abbrev pub words_in : Core → Buffer → List ℕ
words_in core buffer = numbers_at (replicate (word_count buffer) 8) (core_bytes_from core buffer.address)

-- the words of the threads' own segments
abbrev pub own_words : List OwnRoot → List ℕ
own_words own = flat_map (λ segment. segment.words) own

-- the words of the root segments, that of all threads and each thread's own
abbrev pub root_words : Core → List ℕ
root_words core = core.root ++ own_words core.own
