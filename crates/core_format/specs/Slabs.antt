-- The slabs and their lists, and the large buffers.
use Rattle.std.specs.Prelude.{ℕ, ◌+◌, ◌*◌, ◌%◌, Bool, not, ◌&&◌, ◌||◌, ◌==◌, List, [], ◌∷◌, Option, Result, Ok, nat_le, nat_lt, slice_index, slice_index_or, unwrap_or}
use Rattle.std.specs.List.{list_any}
use Rattle.std.specs.Option.{option_map}
use Rattle.case_table.specs.declared.limits.TheConstants.{MOST_CACHE_BYTES}
use Rattle.core_format.specs.declared.cache_shape.CacheShape.{CacheShape}
use Rattle.core_format.specs.declared.header.Header.{Header}
use Rattle.core_format.specs.declared.items.LargeItem.{LargeItem}
use Rattle.core_format.specs.declared.items.SlabItem.{SlabItem}
use Rattle.core_format.specs.declared.fault.Fault.TheVariants.{BadLength, BadRound, BadSlab, BadSpan, Overlap, RoundTwice, Unsorted}
use Rattle.umem_base.specs.declared.arena.TheConstants.{ARENA_BASE}
use Rattle.umem_base.specs.declared.pages.TheConstants.{PAGE_BYTES}
use Rattle.umem_base.specs.Pages.{pages_for}
use Rattle.umem_base.specs.Roots.{arena_end}
use Rattle.core_format.specs.Reader.{Flaw, Reader, ◌>>=◌, record_at, rule}
use Rattle.core_format.specs.Items.{is_above, is_unlike, items_at, last_of_list}

-- what no cache is like
abbrev pub no_shape : CacheShape
no_shape = record { align = 0; chunk = 0; pages = 0; rounds = 0; leftover = 0; magazine = 0 }

-- what the slabs of a cache are like, by its number
abbrev pub shape_at : List CacheShape → ℕ → CacheShape
shape_at shapes cache = slice_index_or shapes cache no_shape

-- a page of the arena begins there
abbrev pub is_arena_page : ℕ → ℕ → Bool
is_arena_page version base = base % PAGE_BYTES == 0 && nat_le ARENA_BASE base && nat_lt base (arena_end version)

-- so many pages from there on end in the arena
abbrev pub ends_in_arena : ℕ → ℕ → ℕ → Bool
ends_in_arena version base pages = nat_le (base + PAGE_BYTES * pages) (arena_end version)

-- the address past a slab
abbrev pub slab_end : List CacheShape → SlabItem → ℕ
slab_end shapes slab = slab.base + PAGE_BYTES * (shape_at shapes slab.cache).pages

-- the number past those of a slab's chunks
abbrev pub past_chunks : List CacheShape → SlabItem → ℕ
past_chunks shapes slab = slab.first + (shape_at shapes slab.cache).rounds

-- the chunk is one of the slab
abbrev pub holds_chunk : List CacheShape → ℕ → SlabItem → Bool
holds_chunk shapes chunk slab = nat_le slab.first chunk && nat_lt chunk (past_chunks shapes slab)

-- the slab begins where the one before it ends, or above
abbrev pub is_past_last : List CacheShape → Option SlabItem → ℕ → Bool
is_past_last shapes last base = nat_le (unwrap_or (option_map (slab_end shapes) last) 0) base

-- one of the chunks from first to past is one of the slab
abbrev pub meets_chunks : List CacheShape → ℕ → ℕ → SlabItem → Bool
meets_chunks shapes first past slab = nat_lt slab.first past && nat_lt first (past_chunks shapes slab)

-- a colour is a multiple of the alignment, and the leftover has room for it
abbrev pub is_colour : CacheShape → ℕ → Bool
is_colour shape colour = nat_lt 0 shape.align && colour % shape.align == 0 && nat_le colour shape.leftover

-- a chunk of a slab's list
unfoldable pub listed_at : ℕ → ℕ → List ℕ → Reader → Result (ℕ × Reader) Flaw
listed_at first past before here = do
  fields ← record_at (4 ∷ []) here
  let chunk = slice_index fields.0 0
  _ ← rule (nat_le first chunk && nat_lt chunk past) here.at BadRound
  _ ← rule (is_unlike (last_of_list before) chunk) here.at RoundTwice
  _ ← rule (is_above (last_of_list before) chunk) here.at Unsorted
  Ok (chunk, fields.1)

-- the widths of a slab's fields: base, cache, colour, first chunk, and how many chunks stand in its list
abbrev pub slab_widths : List ℕ
slab_widths = 8 ∷ 4 ∷ 4 ∷ 4 ∷ 4 ∷ []

-- a slab without its list and its bytes
abbrev pub slab_fields : List ℕ → SlabItem
slab_fields v = record {
  base = slice_index v 0;
  cache = slice_index v 1;
  colour = slice_index v 2;
  first = slice_index v 3;
  free = [];
  bytes = [];
}

-- the rules of a slab's base, cache and colour, in a slab that begins at that offset and has this one before it
unfoldable pub slab_rules : Header → List CacheShape → Option SlabItem → SlabItem → ℕ → Result (Unit {0}) Flaw
slab_rules h shapes last slab start = do
  _ ← rule (is_arena_page h.version slab.base) start BadSlab
  _ ← rule (is_above (option_map (λ s. s.base) last) slab.base) start Unsorted
  _ ← rule (is_past_last shapes last slab.base) start Overlap
  _ ← rule (nat_lt slab.cache h.caches) (start + 8) BadSlab
  _ ← rule (ends_in_arena h.version slab.base (shape_at shapes slab.cache).pages) (start + 8) BadSlab
  rule (is_colour (shape_at shapes slab.cache) slab.colour) (start + 12) BadSlab

-- the rules of the field that says a slab's first chunk: the chunks up to past exist, and no earlier slab meets them
unfoldable pub first_rules : Header → ℕ → Bool → ℕ → Result (Unit {0}) Flaw
first_rules h past meets offset = do
  _ ← rule (nat_le past h.next_chunk) offset BadSlab
  rule (not meets) offset BadSlab

-- the fields of a slab, and how many chunks stand in its list
unfoldable pub slab_head_at : Reader → Result ((SlabItem × ℕ) × Reader) Flaw
slab_head_at here = do
  fields ← record_at slab_widths here
  Ok ((slab_fields fields.0, slice_index fields.0 4), fields.1)

-- a slab with its list
unfoldable pub slab_item_at : Header → List CacheShape → List SlabItem → Reader → Result (SlabItem × Reader) Flaw
slab_item_at h shapes before here = do
  head ← slab_head_at here
  let slab = head.0.0
  let listed = head.0.1
  let past = past_chunks shapes slab
  _ ← slab_rules h shapes (last_of_list before) slab here.at
  _ ← first_rules h past (list_any (meets_chunks shapes slab.first past) before) (here.at + 16)
  _ ← rule (nat_le listed (shape_at shapes slab.cache).rounds) (here.at + 20) BadLength
  free ← items_at (listed_at slab.first past) listed [] head.1
  Ok (record slab { free = free.0 }, free.1)

-- the address past a large buffer's pages
abbrev pub large_end : LargeItem → ℕ
large_end item = item.base + PAGE_BYTES * pages_for item.size

-- one of the pages from base to past is one of the slab
abbrev pub meets_slab : List CacheShape → ℕ → ℕ → SlabItem → Bool
meets_slab shapes base past slab = nat_lt slab.base past && nat_lt base (slab_end shapes slab)

-- one of them is one of the large buffer
abbrev pub meets_large : ℕ → ℕ → LargeItem → Bool
meets_large base past item = nat_lt item.base past && nat_lt base (large_end item)

-- one of them is one of these slabs and large buffers
abbrev pub meets_some : List CacheShape → List SlabItem → List LargeItem → ℕ → ℕ → Bool
meets_some shapes slabs large base past =
    list_any (meets_slab shapes base past) slabs || list_any (meets_large base past) large

-- a large buffer without its bytes
abbrev pub large_of : List ℕ → LargeItem
large_of v = record { base = slice_index v 0; size = slice_index v 1; bytes = [] }

-- a large buffer
unfoldable pub large_item_at : Header → List CacheShape → List SlabItem → List LargeItem → Reader
    → Result (LargeItem × Reader) Flaw
large_item_at h shapes slabs before here = do
  fields ← record_at (8 ∷ 8 ∷ []) here
  let item = large_of fields.0
  _ ← rule (is_arena_page h.version item.base) here.at BadSpan
  _ ← rule (is_above (option_map (λ l. l.base) (last_of_list before)) item.base) here.at Unsorted
  _ ← rule (nat_lt MOST_CACHE_BYTES item.size) (here.at + 8) BadSpan
  _ ← rule (ends_in_arena h.version item.base (pages_for item.size)) (here.at + 8) BadSpan
  _ ← rule (not (meets_some shapes slabs before item.base (large_end item))) here.at Overlap
  Ok (item, fields.1)
