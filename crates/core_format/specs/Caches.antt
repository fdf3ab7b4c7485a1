-- The caches: the size classes, and behind them the declared ones.
use Rattle.std.specs.Prelude.{ℕ, ◌+◌, Bool, not, ◌&&◌, ◌||◌, ◌==◌, List, [], ◌∷◌, length, map, take, drop, Option, Some, None, Result, Ok, nat_eq, nat_le, nat_lt, position, slice_index, unwrap_or, if◌then◌else◌}
use Rattle.std.specs.List.{list_all}
use Rattle.std.specs.Cmp.Lexicographic.{pointwise}
use Rattle.case_table.specs.CacheName.{class_name, is_cache_name, is_reserved_name}
use Rattle.case_table.specs.Geometry.{geometry_of}
use Rattle.case_table.specs.Sizes.{size_of}
use Rattle.case_table.specs.declared.limits.TheConstants.{CLASS_COUNT, MOST_CACHE_BYTES}
use Rattle.case_table.specs.declared.size_classes.TheConstants.{CLASS_ALIGN}
use Rattle.case_table.specs.declared.cache_def.CacheDef.{CacheDef}
use Rattle.core_format.specs.declared.cache_shape.CacheShape.{CacheShape}
use Rattle.core_format.specs.declared.cache_numbers.CacheNumbers.{CacheNumbers}
use Rattle.core_format.specs.declared.fault.Fault.TheVariants.{BadCache}
use Rattle.core_format.specs.declared.header.Header.{Header}
use Rattle.core_format.specs.declared.items.CacheItem.{CacheItem}
use Rattle.core_format.specs.declared.limits.TheConstants.{NO_CTOR}
use Rattle.umem_options.specs.declared.flags.TheConstants.DebugFlags.{GUARDS}
use Rattle.core_format.specs.Header.{has_bit}
use Rattle.core_format.specs.Reader.{Flaw, Reader, ◌>>=◌, bytes_at, record_at, room, rule}

-- the byte is the one that pads
abbrev pub is_zero : ℕ → Bool
is_zero byte = byte == 0

-- how many bytes of a field stand before the first zero
abbrev pub padded_length : List ℕ → ℕ
padded_length field = unwrap_or (position is_zero field) (length field)

-- the name in a field of 32 bytes
abbrev pub padded_name : List ℕ → List ℕ
padded_name field = take (padded_length field) field

-- nothing but zeros stands behind it
abbrev pub is_padded : List ℕ → Bool
is_padded field = list_all is_zero (drop (padded_length field) field)

-- no cache has the name
abbrev pub is_unused : List CacheItem → List ℕ → Bool
is_unused caches name = list_all (λ item. not (pointwise nat_eq item.def.name name)) caches

-- the name may be declared behind those caches
abbrev pub is_new_name : List CacheItem → List ℕ → Bool
is_new_name caches name = is_cache_name name && not (is_reserved_name name) && is_unused caches name

-- the name that the next cache may have
abbrev pub is_name_behind : List CacheItem → List ℕ → Bool
is_name_behind caches name =
    if nat_lt (length caches) CLASS_COUNT then pointwise nat_eq name (class_name (length caches))
    else is_new_name caches name

-- the size that it may have
abbrev pub is_size_of : ℕ → ℕ → Bool
is_size_of cache size =
    if nat_lt cache CLASS_COUNT then size == size_of cache else (nat_le 1 size && nat_le size MOST_CACHE_BYTES)

-- the alignment that it may have
abbrev pub is_align_of : ℕ → ℕ → Bool
is_align_of cache align =
    if nat_lt cache CLASS_COUNT then align == CLASS_ALIGN else (align == 8 || align == 16 || align == 32 || align == 64)

-- a constructor's byte as a number, where one number stands for none
abbrev pub ctor_of : ℕ → Option ℕ
ctor_of number = if nat_lt number NO_CTOR then Some number else None

-- the number of a constructor that it may have
abbrev pub is_ctor_of : ℕ → ℕ → Bool
is_ctor_of cache number = if nat_lt cache CLASS_COUNT then number == NO_CTOR else nat_le number NO_CTOR

-- how many bytes a cache has
abbrev pub cache_bytes : Header → ℕ
cache_bytes h = if h.version == 1 then 44 else 48

-- the numbers of a cache
abbrev pub cache_numbers : ℕ → ℕ → ℕ → ℕ → CacheNumbers
cache_numbers size align grows ctor = record { size = size; align = align; grows = grows; ctor = ctor }

-- the numbers behind a cache's name in version 1, which has no constructors
unfoldable pub first_numbers_at : Reader → Result (CacheNumbers × Reader) Flaw
first_numbers_at here = do
  fields ← record_at (4 ∷ 4 ∷ 4 ∷ []) here
  let v = fields.0
  Ok (cache_numbers (slice_index v 0) (slice_index v 1) (slice_index v 2) NO_CTOR, fields.1)

-- those in version 2
unfoldable pub later_numbers_at : Reader → Result (CacheNumbers × Reader) Flaw
later_numbers_at here = do
  fields ← record_at (4 ∷ 4 ∷ 4 ∷ 4 ∷ []) here
  let v = fields.0
  Ok (cache_numbers (slice_index v 0) (slice_index v 1) (slice_index v 2) (slice_index v 3), fields.1)

-- the numbers of a cache: size, alignment, slabs made, and the constructor
abbrev pub cache_numbers_at : Header → Reader → Result (CacheNumbers × Reader) Flaw
cache_numbers_at h here = if h.version == 1 then first_numbers_at here else later_numbers_at here

-- the rules of the numbers of the cache, in a cache that begins at that offset
unfoldable pub number_rules : ℕ → CacheNumbers → ℕ → Result (Unit {0}) Flaw
number_rules cache numbers start = do
  _ ← rule (is_size_of cache numbers.size) (start + 32) BadCache
  _ ← rule (is_align_of cache numbers.align) (start + 36) BadCache
  rule (is_ctor_of cache numbers.ctor) (start + 44) BadCache

-- the cache of a name and numbers
abbrev pub cache_item_of : List ℕ → CacheNumbers → CacheItem
cache_item_of name numbers =
    let ctor = ctor_of numbers.ctor in
    let def : CacheDef = record { name = name; size = numbers.size; align = numbers.align; ctor = ctor } in
    record { def = def; grows = numbers.grows }

-- the next cache, which is a record
unfoldable pub cache_item_at : Header → List CacheItem → Reader → Result (CacheItem × Reader) Flaw
cache_item_at h before here = do
  _ ← room (cache_bytes h) here
  field ← bytes_at 32 here
  numbers ← cache_numbers_at h field.1
  _ ← rule (is_padded field.0) here.at BadCache
  _ ← rule (is_name_behind before (padded_name field.0)) here.at BadCache
  _ ← number_rules (length before) numbers.0 here.at
  Ok (cache_item_of (padded_name field.0) numbers.0, numbers.1)

-- guards are on
abbrev pub is_guarded : Header → Bool
is_guarded h = has_bit h.flags GUARDS

-- what the slabs of a cache are like
abbrev pub shape_of : Bool → CacheItem → CacheShape
shape_of guards item =
    let g = geometry_of item.def.size item.def.align guards in
    record {
      align = item.def.align;
      chunk = g.chunk;
      pages = g.pages;
      rounds = g.rounds;
      leftover = g.leftover;
      magazine = g.magazine;
    }

-- what the slabs of all caches are like
abbrev pub shapes_of : Header → List CacheItem → List CacheShape
shapes_of h caches = map (shape_of (is_guarded h)) caches
