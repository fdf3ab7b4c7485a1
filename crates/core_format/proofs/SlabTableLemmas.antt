-- A chunk is looked up among those of the slabs.
use Rattle.std.proofs.Common.{◌≡◌, ℕ, zero, suc, ◌+◌, ◌<◌, ◌≤◌, Bool, true, false, ◌&&◌, ◌||◌, eqb, List, [], ◌∷◌, ◌++◌, length, get_or, Option, Some, None, Result, Ok, Err, refl, sym, ap, subst, ◌∙◌, arith, eq-eqb, inl, inr, ◌⊎◌}
use Rattle.std.specs.List.{Contains, list_any}
use Rattle.std.specs.List.Sorted.{IsBinarySearchResult, IsPermutation}
use Rattle.std.specs.Ordering.{nat_cmp}
use Rattle.std.specs.Prelude.{IfSome, IsSome, MatchResult, is_none, is_ok}
use Rattle.std.proofs.lemmas.Bool.{cases_lt}
use Rattle.std.proofs.lemmas.Bool.Decides.{nat_tests}
use Rattle.std.proofs.lemmas.List.{get_or_default, get_or_append_left, length_push, map_push}
use Rattle.std.proofs.lemmas.List.Folds.{list_any_at}
use Rattle.std.proofs.lemmas.List.Sorted.{Contains-permutation, IsPermutation-sym, searched}
use Rattle.std.proofs.Math.Seq.{get_or-append_seam}
use Rattle.core_format.specs.declared.cache_shape.CacheShape.{CacheShape}
use Rattle.core_format.specs.declared.items.SlabItem.{SlabItem}
use Rattle.core_format.specs.declared.range.Range.{Range}
use Rattle.core_format.specs.Items.{has_number}
use Rattle.core_format.specs.Magazines.{is_chunk_of, is_listed}
use Rattle.core_format.specs.Ranges.{chunk_ranges, is_in_range, meets_range, slab_range}
use Rattle.core_format.specs.Slabs.{holds_chunk, meets_chunks, past_chunks, slab_end}
use Rattle.core_format.specs.SlabTable.{HasOwnList, IsIndexed, IsRisingWithin, OwnsChunk, SlabTable}
use Rattle.core_format.proofs.IndexLemmas.{any_meets_chunks, chunk_ranges-more}
use Rattle.core_format.proofs.RangeLemmas.{list_any-none}

-- ---- a number in a list that rises

pub has_number-searched : (numbers : List ℕ) (number : ℕ) (r : Result ℕ ℕ) → ((i j : ℕ) → i < j → j < length numbers → get_or numbers i 0 < get_or numbers j 0)
    → IsBinarySearchResult (λ y. nat_cmp y number) numbers r → is_ok r ≡ has_number numbers number
has_number-searched numbers number r rises found =
    tells r (searched numbers number r found (λ i j le lt. elim (cases_lt i j) [ inl less ↦ omega (arith, rises i j less lt) | inr more ↦ let same : i ≡ j = omega arith in rw same (omega arith) ]))
  where
    tells : (q : Result ℕ ℕ) → MatchResult q (λ i. (i < length numbers) × (get_or numbers i 0 ≡ number)) (λ i. (i ≤ length numbers) × ((k : ℕ) → k < i → get_or numbers k 0 < number) × ((k : ℕ) → i ≤ k → k < length numbers → number < get_or numbers k 0))
        → is_ok q ≡ has_number numbers number
    tells (Ok i) h = sym (list_any_at (λ n. eqb n number) numbers i 0 h.0 (eq-eqb (get_or numbers i 0) number h.1))
    tells (Err i) h =
        sym (list_any-none (λ n. eqb n number) numbers (λ k d lt. elim (cases_lt k i) [
          | inl less ↦ let low : get_or numbers k d < number = subst (λ (n : ℕ). n < number) (get_or_default numbers k 0 d lt) (h.1 k less) in grind (arith, nat_tests)
          | inr more ↦ let high : number < get_or numbers k d = subst (λ (n : ℕ). number < n) (get_or_default numbers k 0 d lt) (h.2 k more lt) in grind (arith, nat_tests)
        ]))

has_number-outside : (first past number : ℕ) (numbers : List ℕ) → IsRisingWithin first past numbers → (number < first) ⊎ (past ≤ number) → has_number numbers number ≡ false
has_number-outside first past number numbers within (inl low) =
    list_any-none (λ n. eqb n number) numbers (λ k d lt. let bound : first ≤ get_or numbers k d = subst (λ (n : ℕ). first ≤ n) (get_or_default numbers k 0 d lt) (within.low k lt) in grind (arith, nat_tests))
has_number-outside first past number numbers within (inr high) =
    list_any-none (λ n. eqb n number) numbers (λ k d lt. let bound : get_or numbers k d < past = subst (λ (n : ℕ). n < past) (get_or_default numbers k 0 d lt) (within.high k lt) in grind (arith, nat_tests))

-- ---- the slab that has a chunk

outside : (shapes : List CacheShape) (chunk : ℕ) (slab : SlabItem) → holds_chunk shapes chunk slab ≡ false → (chunk < slab.first) ⊎ (past_chunks shapes slab ≤ chunk)
outside shapes chunk slab e = grind (arith, nat_tests)

inside : (shapes : List CacheShape) (chunk : ℕ) (slab : SlabItem) → holds_chunk shapes chunk slab ≡ true → (slab.first ≤ chunk) × (chunk < past_chunks shapes slab)
inside shapes chunk slab e = grind (arith, nat_tests)

not_in : (shapes : List CacheShape) (chunk : ℕ) (slab : SlabItem) → (chunk < slab.first) ⊎ (past_chunks shapes slab ≤ chunk) → holds_chunk shapes chunk slab ≡ false
not_in shapes chunk slab (inl low) = grind (arith, nat_tests)
not_in shapes chunk slab (inr high) = grind (arith, nat_tests)

chunk_range_at : (shapes : List CacheShape) (index : ℕ) (slabs : List SlabItem) (k : ℕ) (d : Range) (e : SlabItem) → k < length slabs
    → get_or (chunk_ranges shapes index slabs) k d ≡ record { low = (get_or slabs k e).first; past = past_chunks shapes (get_or slabs k e); owner = index + k }
chunk_range_at shapes index [] k d e lt = absurd (omega arith)
chunk_range_at shapes index (slab ∷ slabs) zero d e lt = ap (λ (i : ℕ). record { low = slab.first; past = past_chunks shapes slab; owner = i }) (omega arith)
chunk_range_at shapes index (slab ∷ slabs) (suc k) d e lt =
    chunk_range_at shapes (suc index) slabs k d e (omega arith) ∙ ap (λ (i : ℕ). record { low = (get_or slabs k e).first; past = past_chunks shapes (get_or slabs k e); owner = i }) (omega arith)

chunk_ranges-length : (shapes : List CacheShape) (index : ℕ) (slabs : List SlabItem) → length (chunk_ranges shapes index slabs) ≡ length slabs
chunk_ranges-length shapes index [] = refl
chunk_ranges-length shapes index (slab ∷ slabs) = ap suc (chunk_ranges-length shapes (suc index) slabs)

owns_at : (shapes : List CacheShape) (slabs : List SlabItem) (ranges pages : List Range) (chunk index : ℕ) → IsIndexed shapes slabs ranges pages → index < length slabs
    → ((d : SlabItem) → holds_chunk shapes chunk (get_or slabs index d) ≡ true) → OwnsChunk (record { shapes = shapes; slabs = slabs }) chunk index
owns_at shapes slabs ranges pages chunk index indexed lt has = record {
  within = lt;
  has = has;
  others = λ j d within other.
      let here = inside shapes chunk (get_or slabs index d) (has d) in
      elim (cases_lt j index) [
        | inl less ↦ elim (indexed.apart j index d less lt) [
          | inl a ↦ not_in shapes chunk (get_or slabs j d) (inr (omega arith))
          | inr b ↦ not_in shapes chunk (get_or slabs j d) (inl (omega arith))
        ]
        | inr more ↦ elim (indexed.apart index j d (omega arith) within) [
          | inl a ↦ not_in shapes chunk (get_or slabs j d) (inl (omega arith))
          | inr b ↦ not_in shapes chunk (get_or slabs j d) (inr (omega arith))
        ]
      ];
}

owns_from : (shapes : List CacheShape) (slabs : List SlabItem) (ranges pages : List Range) (chunk owner : ℕ) (range : Range) → IsIndexed shapes slabs ranges pages → Contains ranges range → range.owner ≡ owner
    → is_in_range chunk range ≡ true → OwnsChunk (record { shapes = shapes; slabs = slabs }) chunk owner
owns_from shapes slabs ranges pages chunk owner range indexed stands owner-is has =
    let there = Contains-permutation ranges (chunk_ranges shapes 0 slabs) range (IsPermutation-sym (chunk_ranges shapes 0 slabs) ranges indexed.ranges_are) stands in
    let k = there.0 in
    let lt : k < length slabs = omega (arith, there.1, chunk_ranges-length shapes 0 slabs) in
    let is : (d : SlabItem) → range ≡ record { low = (get_or slabs k d).first; past = past_chunks shapes (get_or slabs k d); owner = 0 + k } = λ d. sym there.2 ∙ chunk_range_at shapes 0 slabs k range d lt in
    owns_given k lt is
  where
    owns_given : (k : ℕ) → k < length slabs → ((d : SlabItem) → range ≡ record { low = (get_or slabs k d).first; past = past_chunks shapes (get_or slabs k d); owner = 0 + k }) → OwnsChunk (record { shapes = shapes; slabs = slabs }) chunk owner
    owns_given k lt is =
        let some : SlabItem = record { base = 0; cache = 0; colour = 0; first = 0; free = []; bytes = [] } in
        let index : k ≡ owner = omega (arith, ap (λ (r : Range). r.owner) (is some), owner-is) in
        let there : (d : SlabItem) → holds_chunk shapes chunk (get_or slabs k d) ≡ true = λ d. sym (ap (is_in_range chunk) (is d)) ∙ has in
        subst (λ (n : ℕ). OwnsChunk (record { shapes = shapes; slabs = slabs }) chunk n) index (owns_at shapes slabs ranges pages chunk k indexed lt there)

pub owns_from_some : (shapes : List CacheShape) (slabs : List SlabItem) (ranges pages : List Range) (chunk : ℕ) (r : Option ℕ) → IsIndexed shapes slabs ranges pages
    → IfSome r (λ owner. (range : Range) × Contains ranges range × (range.owner ≡ owner) × (is_in_range chunk range ≡ true)) → IfSome r (OwnsChunk (record { shapes = shapes; slabs = slabs }) chunk)
owns_from_some shapes slabs ranges pages chunk None indexed h = tt
owns_from_some shapes slabs ranges pages chunk (Some owner) indexed h = owns_from shapes slabs ranges pages chunk owner h.0 indexed h.1 h.2 h.3

or_false : (b c : Bool) → (b || c) ≡ false → (b ≡ false) × (c ≡ false)
or_false true c e = absurd cc
or_false false c e = (refl, e)

any_false_at : {X : Type 0} (q : X → Bool) (xs : List X) (k : ℕ) (d : X) → list_any q xs ≡ false → k < length xs → q (get_or xs k d) ≡ false
any_false_at q [] k d e lt = absurd (omega arith)
any_false_at q (x ∷ xs) zero d e lt = (or_false (q x) (list_any q xs) e).0
any_false_at q (x ∷ xs) (suc k) d e lt = any_false_at q xs k d (or_false (q x) (list_any q xs) e).1 (omega arith)

-- a test that only the slab of a chunk passes
only_owner : (table : SlabTable) (chunk index : ℕ) (test : SlabItem → Bool) (d : SlabItem) → OwnsChunk table chunk index
    → ((j : ℕ) (e : SlabItem) → j < length table.slabs → holds_chunk table.shapes chunk (get_or table.slabs j e) ≡ false → test (get_or table.slabs j e) ≡ false)
    → list_any test table.slabs ≡ test (get_or table.slabs index d)
only_owner table chunk index test d owns only = by_value (test (get_or table.slabs index d)) refl
  where
    by_value : (b : Bool) → test (get_or table.slabs index d) ≡ b → list_any test table.slabs ≡ test (get_or table.slabs index d)
    by_value true is = list_any_at test table.slabs index d owns.within is ∙ sym is
    by_value false is =
        list_any-none test table.slabs (λ j e lt. elim (cases_lt j index) [
          | inl less ↦ only j e lt (owns.others j e lt (λ same. omega arith))
          | inr more ↦ elim (cases_lt index j) [
            | inl above ↦ only j e lt (owns.others j e lt (λ same. omega arith))
            | inr here ↦
                let same : j ≡ index = omega arith in
                ap test (ap (λ (n : ℕ). get_or table.slabs n e) same ∙ get_or_default table.slabs index e d owns.within) ∙ is
          ]
        ]) ∙ sym is

cache_and_chunk : (b c : Bool) → c ≡ false → (b && c) ≡ false
cache_and_chunk true c e = e
cache_and_chunk false c e = refl

cache_alone : (b c : Bool) → c ≡ true → (b && c) ≡ b
cache_alone true c e = e
cache_alone false c e = refl

pub is_chunk_of-owner : (table : SlabTable) (cache chunk index : ℕ) (slab : SlabItem) → OwnsChunk table chunk index → slab ≡ get_or table.slabs index slab → eqb slab.cache cache ≡ is_chunk_of table.shapes table.slabs cache chunk
is_chunk_of-owner table cache chunk index slab owns e =
    let only = only_owner table chunk index (λ s. eqb s.cache cache && holds_chunk table.shapes chunk s) slab owns (λ j d lt no. cache_and_chunk (eqb (get_or table.slabs j d).cache cache) (holds_chunk table.shapes chunk (get_or table.slabs j d)) no) in
    let here : holds_chunk table.shapes chunk slab ≡ true = rw e (owns.has slab) in
    sym (cache_alone (eqb slab.cache cache) (holds_chunk table.shapes chunk slab) here) ∙ ap (λ (s : SlabItem). eqb s.cache cache && holds_chunk table.shapes chunk s) e ∙ sym only

pub is_chunk_of-none : (table : SlabTable) (cache chunk : ℕ) → list_any (holds_chunk table.shapes chunk) table.slabs ≡ false → is_chunk_of table.shapes table.slabs cache chunk ≡ false
is_chunk_of-none table cache chunk e =
    list_any-none (λ s. eqb s.cache cache && holds_chunk table.shapes chunk s) table.slabs (λ k d lt. cache_and_chunk (eqb (get_or table.slabs k d).cache cache) (holds_chunk table.shapes chunk (get_or table.slabs k d)) (any_false_at (holds_chunk table.shapes chunk) table.slabs k d e lt))

pub is_listed-owner : (shapes : List CacheShape) (slabs : List SlabItem) (ranges pages : List Range) (chunk index : ℕ) (slab : SlabItem) → IsIndexed shapes slabs ranges pages → OwnsChunk (record { shapes = shapes; slabs = slabs }) chunk index
    → slab ≡ get_or slabs index slab → has_number slab.free chunk ≡ is_listed slabs chunk
is_listed-owner shapes slabs ranges pages chunk index slab indexed owns e =
    ap (λ (s : SlabItem). has_number s.free chunk) e
    ∙ sym (only_owner (record { shapes = shapes; slabs = slabs }) chunk index (λ s. has_number s.free chunk) slab owns (λ j d lt no. has_number-outside (get_or slabs j d).first (past_chunks shapes (get_or slabs j d)) chunk (get_or slabs j d).free (indexed.lists j d lt) (outside shapes chunk (get_or slabs j d) no)))

pub is_listed-none : (shapes : List CacheShape) (slabs : List SlabItem) (ranges pages : List Range) (chunk : ℕ) → IsIndexed shapes slabs ranges pages → list_any (holds_chunk shapes chunk) slabs ≡ false → is_listed slabs chunk ≡ false
is_listed-none shapes slabs ranges pages chunk indexed e =
    list_any-none (λ s. has_number s.free chunk) slabs (λ k d lt. has_number-outside (get_or slabs k d).first (past_chunks shapes (get_or slabs k d)) chunk (get_or slabs k d).free (indexed.lists k d lt) (outside shapes chunk (get_or slabs k d) (any_false_at (holds_chunk shapes chunk) slabs k d e lt)))

-- ---- one slab more

apart_from : (shapes : List CacheShape) (first past : ℕ) (slab : SlabItem) → meets_chunks shapes first past slab ≡ false → (past_chunks shapes slab ≤ first) ⊎ (past ≤ slab.first)
apart_from shapes first past slab e = grind (arith, nat_tests)

pub at_push : {X : Type 0} (xs : List X) (x d : X) (k : ℕ) → k < length (xs ++ x ∷ []) → ((k < length xs) × (get_or (xs ++ x ∷ []) k d ≡ get_or xs k d)) ⊎ ((k ≡ length xs) × (get_or (xs ++ x ∷ []) k d ≡ x))
at_push xs x d k lt =
    elim (cases_lt k (length xs)) [
      | inl less ↦ inl (less, get_or_append_left xs (x ∷ []) d k less)
      | inr more ↦
          let same : k ≡ length xs = omega (arith, length_push xs x) in
          inr (same, ap (λ (n : ℕ). get_or (xs ++ x ∷ []) n d) same ∙ get_or-append_seam xs x [] d)
    ]

pub IsIndexed-more : (shapes : List CacheShape) (slabs now : List SlabItem) (slab : SlabItem) (range page : Range) (old new pages pages' : List Range) → IsIndexed shapes slabs old pages → now ≡ slabs ++ slab ∷ [] → IsPermutation (range ∷ old) new
    → range.low ≡ slab.first → range.past ≡ past_chunks shapes slab → range.owner ≡ length slabs → pages' ≡ pages ++ page ∷ [] → page ≡ slab_range shapes slab
    → list_any (meets_chunks shapes slab.first (past_chunks shapes slab)) slabs ≡ false → HasOwnList shapes slab → IsIndexed shapes now new pages'
IsIndexed-more shapes slabs now slab range page old new pages pages' indexed now-is put low past owner pages-is page-is free list = rw now-is record {
  ranges_are = chunk_ranges-more shapes slabs slab range old new indexed.ranges_are put low past owner;
  pages_are = rw (pages-is, page-is, indexed.pages_are) (sym (map_push (slab_range shapes) slabs slab));
  apart = λ i j d lt within. elim (at_push slabs slab d j within) [
    | inl before ↦ rw (before.1, get_or_append_left slabs (slab ∷ []) d i (omega (arith, before.0))) (indexed.apart i j d lt before.0)
    | inr last ↦ rw (last.1, get_or_append_left slabs (slab ∷ []) d i (omega (arith, last.0)))
        (apart_from shapes slab.first (past_chunks shapes slab) (get_or slabs i d) (any_false_at (meets_chunks shapes slab.first (past_chunks shapes slab)) slabs i d free (omega (arith, last.0))))
  ];
  lists = λ i d within. elim (at_push slabs slab d i within) [
    | inl before ↦ rw before.1 (indexed.lists i d before.0)
    | inr last ↦ rw last.1 list
  ];
}

some_from_none : {X : Type 0} (r : Option X) → is_none r ≡ false → IsSome r
some_from_none None e = absurd cc
some_from_none (Some x) e = refl

-- where the chunks are free, they have a place
pub place_is_free : (shapes : List CacheShape) (slabs : List SlabItem) (ranges pages : List Range) (slab : SlabItem) (first past : ℕ) (r : Option ℕ) → IsIndexed shapes slabs ranges pages → first ≡ slab.first
    → past ≡ past_chunks shapes slab → list_any (meets_chunks shapes slab.first (past_chunks shapes slab)) slabs ≡ false → is_none r ≡ list_any (meets_range first past) ranges → IsSome r
place_is_free shapes slabs ranges pages slab first past r indexed first-is past-is free none =
    some_from_none r (none ∙ any_meets_chunks shapes slabs ranges first past indexed.ranges_are ∙ ap (λ (n : ℕ). list_any (meets_chunks shapes n past) slabs) first-is ∙ ap (λ (n : ℕ). list_any (meets_chunks shapes slab.first n) slabs) past-is ∙ free)

pub page_range-is : (shapes : List CacheShape) (slab : SlabItem) (end : ℕ) → end ≡ slab_end shapes slab → record { low = slab.base; past = end; owner = 0 } ≡ slab_range shapes slab
page_range-is shapes slab end e = ap (λ (n : ℕ). record { low = slab.base; past = n; owner = 0 }) e
