-- The buffers of a core that is laid out stand apart.
use Rattle.std.proofs.Common.{◌≡◌, ℕ, suc, ◌+◌, ◌-◌, ◌*◌, ◌<◌, ◌≤◌, ◌^◌, Bool, true, false, cond, eqb, List, [], ◌∷◌, length, get_or, map, Option, Some, None, sym, ap, subst, ◌∙◌, arith, inl, inr, ◌⊎◌}
use Rattle.std.specs.List.{All, AllPairs, flat_map, filter}
use Rattle.std.specs.List.Sorted.{IsNonDecreasingBy, IsPermutation}
use Rattle.std.specs.Prelude.{unwrap_or}
use Rattle.std.specs.Option.{option_map}
use Rattle.std.proofs.lemmas.List.{get_or-map, length-map}
use Rattle.std.proofs.lemmas.List.Elements.{All-append, All-filter, All-map, All-nil, All-tail, All-weaker}
use Rattle.std.proofs.lemmas.List.Kept.{AllPairs-filter}
use Rattle.std.proofs.lemmas.List.Sorted.{All-permutation, IsPermutation-sym, IsPermutation-trans}
use Rattle.std.proofs.lemmas.Nat.{mul-le}
use Rattle.umem_base.specs.declared.pages.TheConstants.{PAGE_BYTES}
use Rattle.umem_base.specs.Roots.{arena_end}
use Rattle.case_table.specs.Geometry.{content_of, geometry_of, tag_of}
use Rattle.case_table.specs.declared.slab_quantities.Geometry.{Geometry}
use Rattle.case_table.proofs.GeometryLemmas.{geometry_is_sound}
use Rattle.core_format.specs.declared.items.CacheItem.{CacheItem}
use Rattle.core_format.specs.declared.items.LargeItem.{LargeItem}
use Rattle.core_format.specs.declared.items.SlabItem.{SlabItem}
use Rattle.core_format.specs.declared.whole.Core.{Core}
use Rattle.core_format.specs.Caches.{shape_of}
use Rattle.core_format.specs.Chunks.{allocated_in, chunk_address, core_shapes, free_in, is_guarded_core}
use Rattle.core_format.specs.PageBytes.{no_large}
use Rattle.core_format.specs.Slabs.{large_end, no_shape, shape_at, slab_end}
use Rattle.core_format.proofs.RangeLemmas.{last_get}
use Rattle.heap_view.specs.declared.buffer.Buffer.{Buffer}
use Rattle.heap_view.specs.Buffers.{allocated_buffers, buffer_align, buffer_bytes, buffers_of, by_address, chunk_buffer, chunk_buffers, free_buffers_of, large_buffer, numbers_from, slab_buffers}
use Rattle.heap_view.specs.Layout.{AreSlabAndLargeApart, IsLaidOut, IsShapeIn, IsSlabBelow, IsSoundSlab, core_geometry, geometries_of, item_geometry}
use Rattle.heap_view.specs.Points.{AreBuffersApart, FitsAddresses, IsBelow}
use Rattle.heap_view.proofs.ListLemmas.{All-flat_map, AllPairs-append, numbers_rise, numbers_within}
use Rattle.heap_view.proofs.SortLemmas.{fold_put_apart, fold_put_permutation, same_from_permutation}

-- ---- the quantities of a cache

no_cache : CacheItem
no_cache = record { def = record { name = []; size = 0; align = 0; ctor = None }; grows = 0 }

shape_is : (core : Core) (cache : ℕ) (d : CacheItem) → cache < length core.caches → shape_at (core_shapes core) cache ≡ shape_of (is_guarded_core core) (get_or core.caches cache d)
shape_is core cache d lt = get_or-map (shape_of (is_guarded_core core)) core.caches cache d no_shape lt

pub bytes_are : (core : Core) (cache : ℕ) (d : CacheItem) → cache < length core.caches → buffer_bytes core cache ≡ (get_or core.caches cache d).def.size
bytes_are core cache d lt = ap (λ (o : Option CacheItem). unwrap_or (option_map (λ (i : CacheItem). i.def.size) o) 0) (last_get core.caches cache d lt)

pub aligns_are : (core : Core) (cache : ℕ) (d : CacheItem) → cache < length core.caches → buffer_align core cache ≡ (get_or core.caches cache d).def.align
aligns_are core cache d lt = ap (λ (o : Option CacheItem). unwrap_or (option_map (λ (i : CacheItem). i.def.align) o) 0) (last_get core.caches cache d lt)

-- the geometry of a cache is that of its size and alignment
pub geometry_is : (core : Core) (cache : ℕ) (d : CacheItem) → cache < length core.caches
    → geometry_of (get_or core.caches cache d).def.size (get_or core.caches cache d).def.align (is_guarded_core core) ≡ core_geometry core cache
geometry_is core cache d lt =
    let item = get_or core.caches cache d in
    ap (λ (n : ℕ). geometry_of n item.def.align (is_guarded_core core)) (sym (bytes_are core cache d lt))
    ∙ ap (λ (n : ℕ). geometry_of (buffer_bytes core cache) n (is_guarded_core core)) (sym (aligns_are core cache d lt))

-- the content and the tag of a buffer fit a chunk
tag_room : (size align : ℕ) (guards : Bool) → (geometry_of size align guards).content + tag_of guards ≤ (geometry_of size align guards).chunk → content_of size + tag_of guards ≤ (geometry_of size align guards).chunk
unfolding geometry_of
tag_room size align guards le = le

-- what holds of it
pub shape_in : (core : Core) (cache : ℕ) → IsLaidOut core → cache < length core.caches → IsShapeIn core cache (core_geometry core cache)
shape_in core cache laid lt =
    let item = get_or core.caches cache no_cache in
    let guards = is_guarded_core core in
    let sound = geometry_is_sound item.def.size item.def.align guards (laid.caches cache no_cache lt) in
    let shape = shape_is core cache no_cache lt in
    let size = bytes_are core cache no_cache lt in
    let g = geometry_of item.def.size item.def.align guards in
    subst (IsShapeIn core cache) (geometry_is core cache no_cache lt) (record {
      chunk = ap (λ s. s.chunk) shape;
      pages = ap (λ s. s.pages) shape;
      rounds = ap (λ s. s.rounds) shape;
      leftover = ap (λ s. s.leftover) shape;
      size_some = omega (arith, size, (laid.caches cache no_cache lt).some);
      size_fits = omega (arith, size, sound.content_holds, sound.tag_fits);
      tagged = subst (λ (n : ℕ). content_of n + tag_of guards ≤ g.chunk) (sym size) (tag_room item.def.size item.def.align guards sound.tag_fits);
      chunk_some = omega (arith, sound.chunk_some);
      chunk_small = sound.chunk_small;
      pages_small = sound.pages_small;
      rounds_small = sound.rounds_small;
      filled = sound.filled;
    })

-- what holds of those of all caches
pub shapes_in : (core : Core) (geometries : List Geometry) (cache : ℕ) (d : Geometry) → IsLaidOut core → geometries ≡ geometries_of core → cache < length core.caches → IsShapeIn core cache (get_or geometries cache d)
shapes_in core geometries cache d laid are lt =
    let is : get_or geometries cache d ≡ core_geometry core cache = ap (λ (gs : List Geometry). get_or gs cache d) are ∙ get_or-map (item_geometry core) core.caches cache no_cache d lt ∙ geometry_is core cache no_cache lt in
    subst (IsShapeIn core cache) (sym is) (shape_in core cache laid lt)

-- ---- the chunks of a slab

-- the buffer lies between two addresses
abbrev pub IsBetween : ℕ → ℕ → Buffer → Type 0
IsBetween low high buffer = (low ≤ buffer.address) × (0 < buffer.size) × (buffer.address + buffer.size ≤ high)

pub row_fits : (i n c : ℕ) → i < n → i * c + c ≤ n * c
row_fits i n c lt = omega (arith, mul-le (suc i) c n c (omega arith) (omega arith))

-- where a chunk of a slab stands
pub record StandsIn (core : Core) (slab : SlabItem) (g : Geometry) (n : ℕ) : Type 0 where
  pub address : (chunk_buffer core slab n).address ≡ slab.base + (slab.colour + (n - slab.first) * g.chunk)
  pub inside : IsBetween slab.base (slab_end (core_shapes core) slab) (chunk_buffer core slab n)

pub stands_in : (core : Core) (slab : SlabItem) (g : Geometry) (n : ℕ) → IsSoundSlab core slab → IsShapeIn core slab.cache g → slab.first ≤ n → n < slab.first + g.rounds → StandsIn core slab g n
stands_in core slab g n sound shape low high =
    let at : (chunk_buffer core slab n).address ≡ slab.base + (slab.colour + (n - slab.first) * g.chunk) = ap (λ (c : ℕ). slab.base + (slab.colour + (n - slab.first) * c)) shape.chunk in
    let row : (n - slab.first) * g.chunk + g.chunk ≤ g.rounds * g.chunk = row_fits (n - slab.first) g.rounds g.chunk (omega arith) in
    let end : slab_end (core_shapes core) slab ≡ slab.base + PAGE_BYTES * g.pages = ap (λ (p : ℕ). slab.base + PAGE_BYTES * p) shape.pages in
    record {
      address = at;
      inside = (omega (arith, at), shape.size_some, omega (arith, at, row, end, shape.filled, shape.size_fits, sound.coloured, shape.leftover));
    }

-- the numbers of the chunks of a slab
abbrev pub IsNumberOf : SlabItem → Geometry → ℕ → Type 0
IsNumberOf slab g n = (slab.first ≤ n) × (n < slab.first + g.rounds)

below_next : (core : Core) (slab : SlabItem) (g : Geometry) (n m : ℕ) → IsSoundSlab core slab → IsShapeIn core slab.cache g → IsNumberOf slab g n → IsNumberOf slab g m → n < m → IsBelow (chunk_buffer core slab n) (chunk_buffer core slab m)
below_next core slab g n m sound shape here there lt =
    omega (arith, (stands_in core slab g n sound shape here.0 here.1).address, (stands_in core slab g m sound shape there.0 there.1).address, row_fits (n - slab.first) (m - slab.first) g.chunk (omega (arith, here.0)), shape.size_fits)

-- the chunks of a slab stand one below the other, between its ends
pub slab_apart : (core : Core) (slab : SlabItem) (test : ℕ → Bool) → IsLaidOut core → IsSoundSlab core slab → AreBuffersApart (slab_buffers core test slab) × All (IsBetween slab.base (slab_end (core_shapes core) slab)) (slab_buffers core test slab)
slab_apart core slab test laid sound =
    let g = core_geometry core slab.cache in
    let shape : IsShapeIn core slab.cache g = shape_in core slab.cache laid sound.of_cache in
    let rounds = (shape_at (core_shapes core) slab.cache).rounds in
    let f = chunk_buffer core slab in
    let kept = filter test (numbers_from slab.first rounds) in
    let rise : AllPairs (λ n m. n < m) kept = AllPairs-filter (λ n m. n < m) test (numbers_from slab.first rounds) (numbers_rise slab.first rounds) in
    let within : All (IsNumberOf slab g) kept = subst (λ (r : ℕ). All (λ n. (slab.first ≤ n) × (n < slab.first + r)) kept) shape.rounds (All-filter test (λ n. (slab.first ≤ n) × (n < slab.first + rounds)) (numbers_from slab.first rounds) (numbers_within slab.first rounds)) in
    let long = length-map kept f in (
      λ i j d lt bound.
          let li : i < length kept = omega (arith, long) in
          let lj : j < length kept = omega (arith, long) in
          rw (get_or-map f kept i 0 d li, get_or-map f kept j 0 d lj) (below_next core slab g (get_or kept i 0) (get_or kept j 0) sound shape (within i 0 li) (within j 0 lj) (rise i j 0 lt lj)),
      All-map (IsBetween slab.base (slab_end (core_shapes core) slab)) f kept (λ k d lt. let h = within k d lt in (stands_in core slab g (get_or kept k d) sound shape h.0 h.1).inside),
    )

-- ---- the chunks of all slabs

abbrev pub IsSoundFor : Core → (ℕ → Bool) → SlabItem → Type 0
IsSoundFor core test slab = AreBuffersApart (slab_buffers core test slab) × All (IsBetween slab.base (slab_end (core_shapes core) slab)) (slab_buffers core test slab)

-- the chunks of slabs that rise stand at the base of the first or above
flat_above : (core : Core) (test : ℕ → Bool) (base : ℕ) (slabs : List SlabItem) → All (IsSoundFor core test) slabs → All (λ slab. base ≤ slab.base) slabs → All (λ b. base ≤ b.address) (flat_map (slab_buffers core test) slabs)
flat_above core test base [] sound above = All-nil (λ b. base ≤ b.address)
flat_above core test base (slab ∷ slabs) sound above =
    All-append (λ b. base ≤ b.address) (slab_buffers core test slab) (flat_map (slab_buffers core test) slabs)
    (All-weaker (IsBetween slab.base (slab_end (core_shapes core) slab)) (λ b. base ≤ b.address) (λ b h. omega (arith, h.0, above 0 slab (omega arith))) (slab_buffers core test slab) (sound 0 slab (omega arith)).1)
    (flat_above core test base slabs (All-tail (IsSoundFor core test) slab slabs sound) (All-tail (λ s. base ≤ s.base) slab slabs above))

flat_apart : (core : Core) (test : ℕ → Bool) (slabs : List SlabItem) → All (IsSoundFor core test) slabs → AllPairs (IsSlabBelow (core_shapes core)) slabs → AreBuffersApart (flat_map (slab_buffers core test) slabs)
flat_apart core test [] sound rise = λ i j d lt within. absurd (omega arith)
flat_apart core test (slab ∷ slabs) sound rise =
    let end = slab_end (core_shapes core) slab in
    let here = sound 0 slab (omega arith) in
    let rest = All-tail (IsSoundFor core test) slab slabs sound in
    let above = flat_above core test end slabs rest (λ k d lt. rise 0 (suc k) d (omega arith) (omega arith)) in
    AllPairs-append IsBelow (slab_buffers core test slab) (flat_map (slab_buffers core test) slabs) here.0 (flat_apart core test slabs rest (λ i j d lt within. rise (suc i) (suc j) d (omega arith) (omega arith)))
    (λ i j d e li lj. omega (arith, (here.1 i d li).2, above j e lj))

all_sound : (core : Core) (test : ℕ → Bool) → IsLaidOut core → All (IsSoundFor core test) core.slabs
all_sound core test laid = λ k d lt. slab_apart core (get_or core.slabs k d) test laid (laid.slabs k d lt)

-- the chunks of all slabs rise
pub chunks_apart : (core : Core) (test : ℕ → Bool) → IsLaidOut core → AreBuffersApart (chunk_buffers core test)
chunks_apart core test laid = flat_apart core test core.slabs (all_sound core test laid) laid.slabs_rise

-- ---- chunks and large buffers

-- a buffer has a byte, and ends in the arena
abbrev pub IsSoundBuffer : Core → Buffer → Type 0
IsSoundBuffer core buffer = (0 < buffer.size) × (buffer.address + buffer.size ≤ arena_end core.version)

pub chunks_sound : (core : Core) (test : ℕ → Bool) → IsLaidOut core → All (IsSoundBuffer core) (chunk_buffers core test)
chunks_sound core test laid =
    All-flat_map (IsSoundBuffer core) (slab_buffers core test) core.slabs
    (λ k d lt. All-weaker (IsBetween (get_or core.slabs k d).base (slab_end (core_shapes core) (get_or core.slabs k d))) (IsSoundBuffer core) (λ b h. (h.1, omega (arith, h.2, (laid.slabs k d lt).ends))) (slab_buffers core test (get_or core.slabs k d)) (all_sound core test laid k d lt).1)

-- a large buffer ends within its pages
pub large_fits : (item : LargeItem) → item.base + item.size ≤ large_end item
large_fits item = omega arith

large_sound : (core : Core) → IsLaidOut core → All (IsSoundBuffer core) (map large_buffer core.large)
large_sound core laid = All-map (IsSoundBuffer core) large_buffer core.large (λ k d lt. let one = laid.large k d lt in (omega (arith, one.large), omega (arith, large_fits (get_or core.large k d), one.ends)))

large_apart : (core : Core) → IsLaidOut core → AreBuffersApart (map large_buffer core.large)
large_apart core laid = λ i j d lt within.
    let long = length-map core.large large_buffer in
    let li : i < length core.large = omega (arith, long) in
    let lj : j < length core.large = omega (arith, long) in
    rw (get_or-map large_buffer core.large i no_large d li, get_or-map large_buffer core.large j no_large d lj) (omega (arith, large_fits (get_or core.large i no_large), laid.large_rise i j no_large lt lj))

-- one of them ends where the other one begins, or below
abbrev pub AreTwoApart : Buffer → Buffer → Type 0
AreTwoApart x y = IsBelow x y ⊎ IsBelow y x

chunk_and_large : (core : Core) (slab : SlabItem) (item : LargeItem) (b : Buffer) → IsBetween slab.base (slab_end (core_shapes core) slab) b → AreSlabAndLargeApart (core_shapes core) slab item → AreTwoApart b (large_buffer item)
chunk_and_large core slab item b between (inl low) = inl (omega (arith, between.2))
chunk_and_large core slab item b between (inr high) = inr (omega (arith, between.0, large_fits item))

across : (core : Core) (test : ℕ → Bool) → IsLaidOut core → All (λ b. All (λ l. AreTwoApart b (large_buffer l)) core.large) (chunk_buffers core test)
across core test laid =
    All-flat_map (λ b. All (λ l. AreTwoApart b (large_buffer l)) core.large) (slab_buffers core test) core.slabs
    (λ k d lt. All-weaker (IsBetween (get_or core.slabs k d).base (slab_end (core_shapes core) (get_or core.slabs k d))) (λ b. All (λ l. AreTwoApart b (large_buffer l)) core.large)
    (λ b h. λ j f within. chunk_and_large core (get_or core.slabs k d) (get_or core.large j f) b h (laid.apart k d lt j f within)) (slab_buffers core test (get_or core.slabs k d)) (all_sound core test laid k d lt).1)

-- each two allocated buffers stand apart
allocated_apart : (core : Core) → IsLaidOut core → AllPairs AreTwoApart (allocated_buffers core)
allocated_apart core laid =
    let test = allocated_in core in
    AllPairs-append AreTwoApart (chunk_buffers core test) (map large_buffer core.large)
    (λ i j d lt within. inl (chunks_apart core test laid i j d lt within))
    (λ i j d lt within. inl (large_apart core laid i j d lt within))
    (λ i j d e li lj.
    let lm : j < length core.large = omega (arith, length-map core.large large_buffer) in
    subst (AreTwoApart (get_or (chunk_buffers core test) i d)) (sym (get_or-map large_buffer core.large j no_large e lm)) (across core test laid i d li j no_large lm))

allocated_sound : (core : Core) → IsLaidOut core → All (IsSoundBuffer core) (allocated_buffers core)
allocated_sound core laid = All-append (IsSoundBuffer core) (chunk_buffers core (allocated_in core)) (map large_buffer core.large) (chunks_sound core (allocated_in core) laid) (large_sound core laid)

-- ---- by address

-- the first of two buffers that have bytes ends where the other one begins, or below
abbrev pub IsBelowAll : Buffer → Buffer → Type 0
IsBelowAll x y = IsBelow x y × (0 < x.size)

sorted_is : (xs : List Buffer) → IsPermutation xs (by_address xs)
sorted_is xs = fold_put_permutation (λ (b : Buffer). b.address) [] xs

two_apart : (x y : Buffer) → 0 < x.size → 0 < y.size → AreTwoApart x y → IsBelowAll x y ⊎ IsBelowAll y x
two_apart x y some other (inl low) = inl (low, some)
two_apart x y some other (inr high) = inr (high, other)

-- buffers of which each two stand apart do so by address
pub sorted_apart : (core : Core) (xs : List Buffer) → All (IsSoundBuffer core) xs → AllPairs AreTwoApart xs → AllPairs IsBelowAll (by_address xs)
sorted_apart core xs sound apart =
    fold_put_apart (λ (b : Buffer). b.address) IsBelowAll (λ x y h. omega (arith, h.0, h.1)) [] xs
    (λ i j d lt within. absurd (omega arith)) (λ k d lt. λ j e within. absurd (omega arith))
    (λ i j d lt within. two_apart (get_or xs i d) (get_or xs j d) (sound i d (omega arith)).0 (sound j d within).0 (apart i j d lt within))

pub sorted_sound : (core : Core) (xs : List Buffer) → All (IsSoundBuffer core) xs → All (IsSoundBuffer core) (by_address xs)
sorted_sound core xs sound = All-permutation (IsSoundBuffer core) xs (by_address xs) (sorted_is xs) sound

-- a list that was sorted by address is the list by address
pub sorted_same : (core : Core) (xs ys : List Buffer) → All (IsSoundBuffer core) xs → AllPairs AreTwoApart xs → IsNonDecreasingBy (λ (b : Buffer). b.address) ys → IsPermutation xs ys → ys ≡ by_address xs
sorted_same core xs ys sound apart up moves =
    let rises = sorted_apart core xs sound apart in
    same_from_permutation (λ (b : Buffer). b.address) (by_address xs) ys (λ i j d lt within. let h = rises i j d lt within in omega (arith, h.0, h.1)) up
    (IsPermutation-trans (by_address xs) xs ys (IsPermutation-sym xs (by_address xs) (sorted_is xs)) moves)

-- ---- the laws

arena_low : (version : ℕ) → arena_end version < 2 ^ 63
arena_low version = by_version (eqb version 1)
  where
    by_version : (b : Bool) → 1048576 + 4096 * cond b 1024 4096 < 2 ^ 63
    by_version true = omega arith
    by_version false = omega arith

pub buffers_apart : (core : Core) → IsLaidOut core → AreBuffersApart (buffers_of core)
unfolding buffers_of
buffers_apart core laid = λ i j d lt within. (sorted_apart core (allocated_buffers core) (allocated_sound core laid) (allocated_apart core laid) i j d lt within).0

pub buffers_sound : (core : Core) → IsLaidOut core → All (IsSoundBuffer core) (buffers_of core)
unfolding buffers_of
buffers_sound core laid = sorted_sound core (allocated_buffers core) (allocated_sound core laid)

pub free_apart : (core : Core) → IsLaidOut core → AreBuffersApart (free_buffers_of core)
unfolding free_buffers_of
free_apart core laid = λ i j d lt within. (sorted_apart core (chunk_buffers core (free_in core)) (chunks_sound core (free_in core) laid) (λ i j d lt within. inl (chunks_apart core (free_in core) laid i j d lt within)) i j d lt within).0

pub buffers_fit : (core : Core) → IsLaidOut core → All FitsAddresses (buffers_of core)
buffers_fit core laid = All-weaker (IsSoundBuffer core) FitsAddresses (λ b h. omega (arith, h.1, arena_low core.version)) (buffers_of core) (buffers_sound core laid)

-- what the code sorts is the definition
pub allocated_same : (core : Core) (xs ys : List Buffer) → IsLaidOut core → xs ≡ allocated_buffers core → IsNonDecreasingBy (λ (b : Buffer). b.address) ys → IsPermutation xs ys → ys ≡ buffers_of core
unfolding buffers_of
allocated_same core xs ys laid e up moves = sorted_same core (allocated_buffers core) ys (allocated_sound core laid) (allocated_apart core laid) up (subst (λ (zs : List Buffer). IsPermutation zs ys) e moves)

pub free_same : (core : Core) (xs ys : List Buffer) → IsLaidOut core → xs ≡ chunk_buffers core (free_in core) → IsNonDecreasingBy (λ (b : Buffer). b.address) ys → IsPermutation xs ys → ys ≡ free_buffers_of core
unfolding free_buffers_of
free_same core xs ys laid e up moves =
    sorted_same core (chunk_buffers core (free_in core)) ys (chunks_sound core (free_in core) laid) (λ i j d lt within. inl (chunks_apart core (free_in core) laid i j d lt within)) up (subst (λ (zs : List Buffer). IsPermutation zs ys) e moves)

-- the buffer that the code makes of a chunk
pub chunk_buffer_is : (core : Core) (slab : SlabItem) (g : Geometry) (index address size : ℕ) → IsShapeIn core slab.cache g → address ≡ slab.base + (slab.colour + index * g.chunk) → size ≡ buffer_bytes core slab.cache
    → record { address = address; size = size; cache = Some slab.cache; chunk = Some (slab.first + index) } ≡ chunk_buffer core slab (slab.first + index)
chunk_buffer_is core slab g index address size shape at bytes =
    let same : index ≡ slab.first + index - slab.first = omega arith in
    let place : address ≡ chunk_address (core_shapes core) slab (slab.first + index) =
    at ∙ ap (λ (n : ℕ). slab.base + (slab.colour + n * g.chunk)) same ∙ ap (λ (c : ℕ). slab.base + (slab.colour + (slab.first + index - slab.first) * c)) (sym shape.chunk) in
    let with_place : ℕ → Buffer = λ a. record { address = a; size = size; cache = Some slab.cache; chunk = Some (slab.first + index) } in
    let with_size : ℕ → Buffer = λ s. record { address = chunk_address (core_shapes core) slab (slab.first + index); size = s; cache = Some slab.cache; chunk = Some (slab.first + index) } in
    ap with_place place ∙ ap with_size bytes

-- the lists by address only move the items
pub buffers_in_order : (core : Core) → IsPermutation (allocated_buffers core) (buffers_of core)
unfolding buffers_of
buffers_in_order core = sorted_is (allocated_buffers core)

pub free_in_order : (core : Core) → IsPermutation (chunk_buffers core (free_in core)) (free_buffers_of core)
unfolding free_buffers_of
free_in_order core = sorted_is (chunk_buffers core (free_in core))
