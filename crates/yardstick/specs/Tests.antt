-- Tests that tell what a legal history asks of its entries, each by what it looks at.
use Rattle.std.specs.Prelude.{ℕ, ◌+◌, ◌*◌, ◌%◌, Bool, true, false, not, ◌&&◌, ◌||◌, ◌==◌, List, is_none, is_some, nat_le}
use Rattle.std.specs.List.{list_all, list_any, range_with_len}
use Rattle.umem_base.specs.declared.arena.TheConstants.{ARENA_BASE}
use Rattle.umem_base.specs.declared.pages.TheConstants.{PAGE_BYTES}
use Rattle.umem_base.specs.Roots.{arena_end, arena_pages}
use Rattle.case_table.specs.declared.limits.TheConstants.{CLASS_COUNT}
use Rattle.script.specs.declared.operation.Op.{Op}
use Rattle.script.specs.declared.operation.Op.TheVariants.{Alloc, Zalloc, Free, CacheAlloc, CacheFree, Copy, Clear, Store, Link, Load, Reap}
use Rattle.plain_heap.specs.declared.entry.Body.{Body}
use Rattle.plain_heap.specs.declared.entry.Body.TheVariants.{Call, Grow, Shrink}
use Rattle.plain_heap.specs.declared.entry.Entry.{Entry}
use Rattle.plain_heap.specs.declared.reply.Reply.{Reply}
use Rattle.plain_heap.specs.declared.reply.Reply.TheVariants as reply
use Rattle.plain_heap.specs.Setting.{Setting, geometry_in}
use Rattle.plain_heap.specs.State.{HeapSlab, LiveBuffer, State, begins_chunk, chunk_start, held_at, is_in_span, is_live, is_taken, new_slab, span_of_large}

-- ---- pages

-- the buffer is a large one, and an address is in one of its pages
abbrev pub is_in_large_buffer : ℕ → LiveBuffer → Bool
is_in_large_buffer address buffer = is_none buffer.held.cache && is_in_span address (span_of_large buffer)

-- a free page begins at an address
abbrev pub is_free_page : Setting → State → ℕ → Bool
is_free_page setting state address =
    address % PAGE_BYTES == 0 && nat_le ARENA_BASE address
    && nat_le (address + PAGE_BYTES) (arena_end setting.header.version) && not (is_taken setting state address)

-- the run of pages from a base on is free
abbrev pub is_free_run : Setting → State → ℕ → ℕ → Bool
is_free_run setting state pages base =
    list_all (λ k. is_free_page setting state (base + PAGE_BYTES * k)) (range_with_len 0 pages)

-- a run of pages is free that begins at a page of the arena
abbrev pub has_run : Setting → State → ℕ → Bool
has_run setting state pages =
    list_any (λ k. is_free_run setting state pages (ARENA_BASE + PAGE_BYTES * k))
    (range_with_len 0 (arena_pages setting.header.version))

-- ---- chunks

-- an address is where a chunk of a slab of the cache begins
abbrev pub is_chunk_of_cache : Setting → List HeapSlab → ℕ → ℕ → Bool
is_chunk_of_cache setting slabs cache address =
    list_any (λ slab. slab.cache == cache && begins_chunk setting slab address) slabs

-- an address is one that a cache may hand out
abbrev pub is_choice : Setting → State → ℕ → ℕ → Bool
is_choice setting state cache address =
    is_chunk_of_cache setting state.slabs cache address && is_none (held_at state.live address)

-- each chunk of a slab lives
abbrev pub is_all_live : Setting → List LiveBuffer → HeapSlab → Bool
is_all_live setting live slab =
    list_all (λ index. is_some (held_at live (chunk_start setting slab index)))
    (range_with_len 0 (geometry_in setting slab.cache).rounds)

-- no chunk of a slab lives
abbrev pub has_no_live : Setting → List LiveBuffer → HeapSlab → Bool
has_no_live setting live slab =
    list_all (λ index. is_none (held_at live (chunk_start setting slab index)))
    (range_with_len 0 (geometry_in setting slab.cache).rounds)

-- each chunk of each slab of a cache lives
abbrev pub are_all_live : Setting → State → ℕ → Bool
are_all_live setting state cache =
    list_all (λ slab. not (slab.cache == cache) || is_all_live setting state.live slab) state.slabs

-- a cache has nothing to hand out
abbrev pub is_cache_full : Setting → State → ℕ → Bool
is_cache_full setting state cache =
    are_all_live setting state cache && not (has_run setting state (geometry_in setting cache).pages)

-- ---- inner entries

-- the entry hands out a chunk of a slab
abbrev pub is_answered_from : Setting → HeapSlab → Reply → Bool
is_answered_from setting slab (reply.At address report) = begins_chunk setting slab address
is_answered_from setting slab other = false

-- the call is an allocation that was answered with a chunk of a slab
abbrev pub is_alloc_from : Setting → HeapSlab → Op → Reply → Bool
is_alloc_from setting slab (Alloc slot size) answer = is_answered_from setting slab answer
is_alloc_from setting slab (Zalloc slot size) answer = is_answered_from setting slab answer
is_alloc_from setting slab (CacheAlloc slot cache) answer = is_answered_from setting slab answer
is_alloc_from setting slab (Free slot size) answer = false
is_alloc_from setting slab (CacheFree slot cache) answer = false
is_alloc_from setting slab (Copy to from) answer = false
is_alloc_from setting slab (Clear slot) answer = false
is_alloc_from setting slab (Store slot offset stored) answer = false
is_alloc_from setting slab (Link slot offset value) answer = false
is_alloc_from setting slab (Load to slot offset) answer = false
is_alloc_from setting slab Reap answer = false

-- the entry hands out a chunk of a slab
abbrev pub hands_out_from : Setting → HeapSlab → Body → Bool
hands_out_from setting slab (Call op frames answer) = is_alloc_from setting slab op answer
hands_out_from setting slab (Grow cache base) = false
hands_out_from setting slab (Shrink cache base) = false

-- the call is a reap
abbrev pub is_reap : Op → Bool
is_reap (Alloc slot size) = false
is_reap (Zalloc slot size) = false
is_reap (Free slot size) = false
is_reap (CacheAlloc slot cache) = false
is_reap (CacheFree slot cache) = false
is_reap (Copy to from) = false
is_reap (Clear slot) = false
is_reap (Store slot offset stored) = false
is_reap (Link slot offset value) = false
is_reap (Load to slot offset) = false
is_reap Reap = true

-- the entry is a shrink, or a reap with any answer
abbrev pub is_reaping : Body → Bool
is_reaping (Call op frames answer) = is_reap op
is_reaping (Grow cache base) = false
is_reaping (Shrink cache base) = true

-- a slab of a cache at a base stands, of which no chunk lives
abbrev pub has_unused : Setting → State → ℕ → ℕ → Bool
has_unused setting state cache base =
    list_any (λ slab. slab.cache == cache && slab.base == base && has_no_live setting state.live slab) state.slabs
