-- What stands at an address of a core.
use Rattle.std.specs.Prelude.{ℕ, ◌+◌, ◌-◌, ◌*◌, ◌/◌, ◌%◌, Bool, ◌&&◌, find, length, Option, Some, None, nat_le, nat_lt, if◌then◌else◌}
use Rattle.std.specs.Option.{option_map}
use Rattle.umem_base.specs.declared.pages.TheConstants.{PAGE_BYTES}
use Rattle.umem_base.specs.declared.roots.TheConstants.{OWN_ROOTS, SHARED_ROOT}
use Rattle.core_format.specs.declared.items.LargeItem.{LargeItem}
use Rattle.core_format.specs.declared.items.SlabItem.{SlabItem}
use Rattle.core_format.specs.declared.whole.Core.{Core}
use Rattle.heap_view.specs.declared.hit.Hit.{Hit}
use Rattle.heap_view.specs.declared.hit.Hit.TheVariants.{Chunk, Large, OwnRoot, Root, Slab, Tail}
use Rattle.heap_view.specs.Buffers.{chunk_buffer, chunks_of}
use Rattle.heap_view.specs.Memory.{large_at, slab_at}
use Rattle.heap_view.specs.Points.{points_to}

-- the address is that of a byte of so many pages from base on
abbrev pub is_in_pages : ℕ → ℕ → ℕ → Bool
is_in_pages base pages address = nat_le base address && nat_lt address (base + PAGE_BYTES * pages)

-- the number of the word of a page that has the address
abbrev pub word_in_page : ℕ → ℕ
word_in_page address = address % PAGE_BYTES / 8

-- the chunk of a slab whose buffer has the address
abbrev pub chunk_at_address : Core → SlabItem → ℕ → Option ℕ
chunk_at_address core slab address =
    find (λ chunk. points_to address (chunk_buffer core slab chunk)) (chunks_of core slab)

-- what stands at an address of a slab, by the chunk whose buffer has it, if there is one
abbrev pub hit_in_chunk : Core → SlabItem → ℕ → Option ℕ → Hit
hit_in_chunk core slab address (Some chunk) =
    Chunk chunk (address - (chunk_buffer core slab chunk).address)
hit_in_chunk core slab address None = Slab slab.cache

-- what stands at an address of a slab
abbrev pub hit_in_slab : Core → ℕ → SlabItem → Hit
hit_in_slab core address slab = hit_in_chunk core slab address (chunk_at_address core slab address)

-- what stands at an address of a large buffer's pages
abbrev pub hit_in_large : ℕ → LargeItem → Hit
hit_in_large address item =
    if nat_lt (address - item.base) item.size then Large item.base (address - item.base) else Tail item.base

-- what stands at an address of no slab
abbrev pub hit_outside_slabs : Core → ℕ → Option SlabItem → Option Hit
hit_outside_slabs core address (Some slab) = Some (hit_in_slab core address slab)
hit_outside_slabs core address None = option_map (hit_in_large address) (large_at core address)

-- what stands at an address of the arena
abbrev pub hit_in_arena : Core → ℕ → Option Hit
hit_in_arena core address = hit_outside_slabs core address (slab_at core address)

-- what stands at an address, and nothing where none of the core's pages has it
unfoldable pub hit_of : Core → ℕ → Option Hit
hit_of core address =
    if is_in_pages SHARED_ROOT 1 address then Some (Root (word_in_page address))
    else (if is_in_pages OWN_ROOTS (length core.own) address
    then Some (OwnRoot ((address - OWN_ROOTS) / PAGE_BYTES) (word_in_page address))
    else hit_in_arena core address)
