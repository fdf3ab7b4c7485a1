-- The ranges by which slabs and large buffers are looked up.
use Rattle.std.proofs.Common.{◌≡◌, ℕ, zero, suc, ◌+◌, ◌-◌, Bool, false, List, [], ◌∷◌, ◌++◌, length, Option, Some, None, refl, sym, ap, ◌∙◌, arith}
use Rattle.std.specs.List.{list_any}
use Rattle.std.specs.List.Sorted.{IsPermutation}
use Rattle.std.specs.Option.{option_map}
use Rattle.std.specs.Prelude.{IsSome, is_none, map, slice_get, unwrap_or}
use Rattle.std.proofs.lemmas.List.{map_push}
use Rattle.std.proofs.lemmas.List.Sorted.{IsPermutation-push_more, list_any-IsPermutation}
use Rattle.core_format.specs.declared.cache_shape.CacheShape.{CacheShape}
use Rattle.core_format.specs.declared.items.LargeItem.{LargeItem}
use Rattle.core_format.specs.declared.items.SlabItem.{SlabItem}
use Rattle.core_format.specs.declared.range.Range.{Range}
use Rattle.core_format.specs.Items.{last_of_list}
use Rattle.core_format.specs.Ranges.{chunk_ranges, is_in_range, large_range, meets_range, slab_range}
use Rattle.core_format.specs.Slabs.{holds_chunk, large_end, meets_chunks, meets_large, past_chunks, slab_end}

-- ---- chunks

any_chunk_range : (test : Range → Bool) (other : SlabItem → Bool) (shapes : List CacheShape) (index : ℕ) (slabs : List SlabItem)
    → ((i : ℕ) (slab : SlabItem) → test (record { low = slab.first; past = past_chunks shapes slab; owner = i }) ≡ other slab) → list_any test (chunk_ranges shapes index slabs) ≡ list_any other slabs
any_chunk_range test other shapes index [] same = refl
any_chunk_range test other shapes index (slab ∷ slabs) same = rw (same index slab, any_chunk_range test other shapes (suc index) slabs same) refl

-- chunks that meet a range meet a slab
pub any_meets_chunks : (shapes : List CacheShape) (slabs : List SlabItem) (ranges : List Range) (first past : ℕ) → IsPermutation (chunk_ranges shapes 0 slabs) ranges
    → list_any (meets_range first past) ranges ≡ list_any (meets_chunks shapes first past) slabs
any_meets_chunks shapes slabs ranges first past same =
    sym (list_any-IsPermutation (meets_range first past) (chunk_ranges shapes 0 slabs) ranges same) ∙ any_chunk_range (meets_range first past) (meets_chunks shapes first past) shapes 0 slabs (λ i slab. refl)

-- a chunk of a range is one of a slab
pub any_has_chunk : (shapes : List CacheShape) (slabs : List SlabItem) (ranges : List Range) (chunk : ℕ) → IsPermutation (chunk_ranges shapes 0 slabs) ranges
    → list_any (is_in_range chunk) ranges ≡ list_any (holds_chunk shapes chunk) slabs
any_has_chunk shapes slabs ranges chunk same =
    sym (list_any-IsPermutation (is_in_range chunk) (chunk_ranges shapes 0 slabs) ranges same) ∙ any_chunk_range (is_in_range chunk) (holds_chunk shapes chunk) shapes 0 slabs (λ i slab. refl)

-- one slab more
pub chunk_ranges-push : (shapes : List CacheShape) (index : ℕ) (slabs : List SlabItem) (slab : SlabItem)
    → chunk_ranges shapes index (slabs ++ slab ∷ []) ≡ chunk_ranges shapes index slabs ++ record { low = slab.first; past = past_chunks shapes slab; owner = index + length slabs } ∷ []
chunk_ranges-push shapes index [] slab =
    ap (λ (i : ℕ). record { low = slab.first; past = past_chunks shapes slab; owner = i } ∷ []) (omega arith)
chunk_ranges-push shapes index (s ∷ slabs) slab =
    let e : suc index + length slabs ≡ index + length (s ∷ slabs) = omega arith in
    let range : ℕ → Range = λ i. record { low = slab.first; past = past_chunks shapes slab; owner = i } in
    ap (λ (rs : List Range). record { low = s.first; past = past_chunks shapes s; owner = index } ∷ rs) (chunk_ranges-push shapes (suc index) slabs slab ∙ ap (λ (i : ℕ). chunk_ranges shapes (suc index) slabs ++ range i ∷ []) e)

pub chunk_ranges-more : (shapes : List CacheShape) (slabs : List SlabItem) (slab : SlabItem) (range : Range) (old now : List Range) → IsPermutation (chunk_ranges shapes 0 slabs) old → IsPermutation (range ∷ old) now
    → range.low ≡ slab.first → range.past ≡ past_chunks shapes slab → range.owner ≡ length slabs → IsPermutation (chunk_ranges shapes 0 (slabs ++ slab ∷ [])) now
chunk_ranges-more shapes slabs slab range old now same put low past owner =
    let e : range ≡ record { low = slab.first; past = past_chunks shapes slab; owner = 0 + length slabs } = cc_range range slab.first (past_chunks shapes slab) (0 + length slabs) low past (owner ∙ omega arith) in
    rw (chunk_ranges-push shapes 0 slabs slab, ← e) (IsPermutation-push_more (chunk_ranges shapes 0 slabs) old now range same put)
  where
    cc_range : (r : Range) (a b c : ℕ) → r.low ≡ a → r.past ≡ b → r.owner ≡ c → r ≡ record { low = a; past = b; owner = c }
    cc_range r a b c p q s = rw (← p, ← q, ← s) refl

-- ---- pages

last-map : {X Y : Type 0} (f : X → Y) (xs : List X) (i : ℕ) → slice_get (map f xs) i ≡ option_map f (slice_get xs i)
last-map f [] i = refl
last-map f (x ∷ xs) zero = refl
last-map f (x ∷ xs) (suc i) = last-map f xs i

length-map' : {X Y : Type 0} (f : X → Y) (xs : List X) → length (map f xs) ≡ length xs
length-map' f [] = refl
length-map' f (x ∷ xs) = ap suc (length-map' f xs)

option_map-twice : {X Y Z : Type 0} (g : Y → Z) (f : X → Y) (o : Option X) → option_map g (option_map f o) ≡ option_map (λ x. g (f x)) o
option_map-twice g f None = refl
option_map-twice g f (Some x) = refl

-- where the last range ends, the last slab does
pub last_slab_end : (shapes : List CacheShape) (slabs : List SlabItem) → unwrap_or (option_map (λ (r : Range). r.past) (last_of_list (map (slab_range shapes) slabs))) 0 ≡ unwrap_or (option_map (slab_end shapes) (last_of_list slabs)) 0
last_slab_end shapes slabs =
    let at : last_of_list (map (slab_range shapes) slabs) ≡ option_map (slab_range shapes) (last_of_list slabs) =
    ap (λ (n : ℕ). slice_get (map (slab_range shapes) slabs) (n - 1)) (length-map' (slab_range shapes) slabs) ∙ last-map (slab_range shapes) slabs (length slabs - 1) in
    ap (λ (o : Option Range). unwrap_or (option_map (λ (r : Range). r.past) o) 0) at ∙ ap (λ (o : Option ℕ). unwrap_or o 0) (option_map-twice (λ (r : Range). r.past) (slab_range shapes) (last_of_list slabs))

pub any-map : {X Y : Type 0} (test : Y → Bool) (f : X → Y) (xs : List X) → list_any test (map f xs) ≡ list_any (λ x. test (f x)) xs
any-map test f [] = refl
any-map test f (x ∷ xs) = rw (any-map test f xs) refl

-- pages that meet a range of large buffers meet one of them
pub any_meets_large : (large : List LargeItem) (ranges : List Range) (base past : ℕ) → IsPermutation (map large_range large) ranges → list_any (meets_range base past) ranges ≡ list_any (meets_large base past) large
any_meets_large large ranges base past same = sym (list_any-IsPermutation (meets_range base past) (map large_range large) ranges same) ∙ any-map (meets_range base past) large_range large

pub large_ranges-more : (large now : List LargeItem) (item : LargeItem) (past : ℕ) (old new : List Range) → IsPermutation (map large_range large) old → IsPermutation (record { low = item.base; past = past; owner = 0 } ∷ old) new
    → past ≡ large_end item → now ≡ large ++ item ∷ [] → IsPermutation (map large_range now) new
large_ranges-more large now item past old new same put past-is now-is =
    let range : Range = record { low = item.base; past = past; owner = 0 } in
    let more : map large_range now ≡ map large_range large ++ range ∷ [] =
    ap (map large_range) now-is ∙ map_push large_range large item ∙ ap (λ (n : ℕ). map large_range large ++ record { low = item.base; past = n; owner = 0 } ∷ []) (sym past-is) in
    rw more (IsPermutation-push_more (map large_range large) old new range same put)

some_from_none : {X : Type 0} (r : Option X) → is_none r ≡ false → IsSome r
some_from_none None e = absurd cc
some_from_none (Some x) e = refl

pub large_is_free : (large : List LargeItem) (ranges : List Range) (base past : ℕ) (r : Option ℕ) → IsPermutation (map large_range large) ranges → list_any (meets_large base past) large ≡ false
    → is_none r ≡ list_any (meets_range base past) ranges → IsSome r
large_is_free large ranges base past r same free none = some_from_none r (none ∙ any_meets_large large ranges base past same ∙ free)
