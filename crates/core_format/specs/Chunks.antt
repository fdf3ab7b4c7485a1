-- The chunks of a core: where they stand, which are free, and what is wrong with them.
use Rattle.std.specs.Prelude.{ℕ, ◌+◌, ◌-◌, ◌*◌, Bool, ◌&&◌, ◌||◌, not, List, map, take, drop, Option, Some, None, find, slice_get, option_and_then, nat_lt, if◌then◌else◌}
use Rattle.std.specs.List.{flat_map, list_any}
use Rattle.std.specs.Option.{option_map}
use Rattle.buftag.specs.declared.finding.Finding.{Finding}
use Rattle.buftag.specs.declared.finding.Finding.TheVariants.{Unconstructed}
use Rattle.buftag.specs.declared.shape.Shape.{Shape}
use Rattle.buftag.specs.declared.state.State.{State}
use Rattle.buftag.specs.declared.state.State.TheVariants.{Allocated, Free}
use Rattle.buftag.specs.Findings.{finding}
use Rattle.buftag.specs.Unconstructed.{unconstructed_at}
use Rattle.case_table.specs.Addresses.{bufctl_address}
use Rattle.case_table.specs.Geometry.{content_of}
use Rattle.case_table.specs.declared.limits.TheConstants.{CLASS_COUNT}
use Rattle.case_table.specs.declared.slab_formulas.TheConstants.{TAG_BYTES}
use Rattle.umem_options.specs.Flags.{has_flag}
use Rattle.umem_options.specs.declared.flags.TheConstants.DebugFlags.{GUARDS}
use Rattle.core_format.specs.declared.cache_shape.CacheShape.{CacheShape}
use Rattle.core_format.specs.declared.items.CacheItem.{CacheItem}
use Rattle.core_format.specs.declared.items.SlabItem.{SlabItem}
use Rattle.core_format.specs.declared.whole.Core.{Core}
use Rattle.core_format.specs.Caches.{shape_of}
use Rattle.core_format.specs.Items.{has_number}
use Rattle.core_format.specs.Magazines.{depot_rounds_of, is_listed, place_rounds}
use Rattle.core_format.specs.Slabs.{holds_chunk, shape_at}

-- guards are on
abbrev pub is_guarded_core : Core → Bool
is_guarded_core core = has_flag core.flags GUARDS

-- what the slabs of a core's caches are like
abbrev pub core_shapes : Core → List CacheShape
core_shapes core = map (shape_of (is_guarded_core core)) core.caches

-- a slab of the core has the chunk
abbrev pub is_chunk_in : Core → ℕ → Bool
is_chunk_in core chunk = list_any (holds_chunk (core_shapes core) chunk) core.slabs

-- the slab that has the chunk
abbrev pub slab_of_chunk : Core → ℕ → Option SlabItem
slab_of_chunk core chunk = find (holds_chunk (core_shapes core) chunk) core.slabs

-- the chunk stands in a list or a magazine
abbrev pub is_held : Core → ℕ → Bool
is_held core chunk =
    is_listed core.slabs chunk
    || has_number (flat_map place_rounds core.cpu_places) chunk
    || has_number (flat_map depot_rounds_of core.depots) chunk

-- the chunk is free: a slab has it, and it stands in a list or a magazine
abbrev pub free_in : Core → ℕ → Bool
free_in core chunk = is_chunk_in core chunk && is_held core chunk

-- the chunk is allocated: a slab has it, and it stands in no list and no magazine
abbrev pub allocated_in : Core → ℕ → Bool
allocated_in core chunk = is_chunk_in core chunk && not (is_held core chunk)

-- the state of a chunk by its number, where a slab has it
abbrev pub chunk_state : Core → ℕ → Option State
chunk_state core chunk = if is_chunk_in core chunk then Some (if is_held core chunk then Free else Allocated) else None

-- where a chunk of a slab begins, in bytes from the slab's base
abbrev pub chunk_offset : List CacheShape → SlabItem → ℕ → ℕ
chunk_offset shapes slab chunk = slab.colour + (chunk - slab.first) * (shape_at shapes slab.cache).chunk

-- the address of a chunk of a slab
abbrev pub chunk_address : List CacheShape → SlabItem → ℕ → ℕ
chunk_address shapes slab chunk = slab.base + chunk_offset shapes slab chunk

-- the bytes of a chunk of a slab
abbrev pub chunk_bytes : List CacheShape → SlabItem → ℕ → List ℕ
chunk_bytes shapes slab chunk =
    take (shape_at shapes slab.cache).chunk (drop (chunk_offset shapes slab chunk) slab.bytes)

-- what the tag of a chunk depends on
abbrev pub tag_shape : CacheItem → ℕ → ℕ → Shape
tag_shape item cache chunk = record {
  size = item.def.size;
  content = content_of item.def.size;
  bufctl = bufctl_address chunk;
  class = if nat_lt cache CLASS_COUNT then Some cache else None;
}

-- with guards: the first rule that the chunk's bytes break in its state
abbrev pub guarded_finding : CacheItem → ℕ → ℕ → List ℕ → State → Option Finding
guarded_finding item cache chunk bytes state =
    finding (take (content_of item.def.size + TAG_BYTES) bytes) (tag_shape item cache chunk) state

-- without: the first byte of a free chunk that is not the constructor's
abbrev pub unguarded_finding : CacheItem → List ℕ → State → Option Finding
unguarded_finding item bytes Allocated = None
unguarded_finding item bytes Free =
    let wrong = unconstructed_at (take item.def.size bytes) in
    option_and_then (λ value. option_map Unconstructed (wrong value)) item.def.ctor

-- what is wrong with a chunk of a slab of a cache, in a state
abbrev pub finding_in_cache : Core → SlabItem → ℕ → State → CacheItem → Option Finding
finding_in_cache core slab chunk state item =
    let bytes = chunk_bytes (core_shapes core) slab chunk in
    if is_guarded_core core then guarded_finding item slab.cache chunk bytes state
    else unguarded_finding item bytes state

-- what is wrong with a chunk of a slab, in a state
abbrev pub finding_in_slab : Core → ℕ → State → SlabItem → Option Finding
finding_in_slab core chunk state slab =
    option_and_then (finding_in_cache core slab chunk state) (slice_get core.caches slab.cache)

-- what is wrong with a chunk, in a state
abbrev pub finding_in_state : Core → ℕ → State → Option Finding
finding_in_state core chunk state = option_and_then (finding_in_slab core chunk state) (slab_of_chunk core chunk)

-- what is wrong with a chunk, in the state that it has
abbrev pub finding_in : Core → ℕ → Option Finding
finding_in core chunk = option_and_then (finding_in_state core chunk) (chunk_state core chunk)
