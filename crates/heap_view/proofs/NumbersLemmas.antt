-- Numbers that follow one another, and which numbers joined lists have.
use Rattle.std.proofs.Common.{◌≡◌, ℕ, zero, suc, ◌+◌, ◌<◌, ◌≤◌, Bool, true, false, eqb, ltb, leb, ◌&&◌, ◌||◌, cond, List, [], ◌∷◌, ◌++◌, length, get_or, map, Result, Ok, Err, refl, sym, ap, subst, ◌∙◌, append_assoc, eq-eqb, arith, inl, inr}
use Rattle.std.specs.List.{Contains, filter, flat_map, list_any}
use Rattle.std.specs.List.Sorted.{IsBinarySearchResult, IsNonDecreasing, IsPermutation}
use Rattle.std.specs.Ordering.{nat_cmp}
use Rattle.std.specs.Prelude.{MatchResult, is_ok, not}
use Rattle.std.proofs.lemmas.Bool.{cases_lt}
use Rattle.std.proofs.lemmas.Bool.Decides.{nat_tests}
use Rattle.std.proofs.lemmas.List.{get_or_default, map-append}
use Rattle.std.proofs.lemmas.List.Elements.{filter-append}
use Rattle.std.proofs.lemmas.List.Folds.{list_any-append, list_any_at}
use Rattle.std.proofs.lemmas.List.Sorted.{list_any-IsPermutation, searched}
use Rattle.core_format.specs.declared.items.SlabItem.{SlabItem}
use Rattle.core_format.specs.declared.whole.Core.{Core}
use Rattle.core_format.specs.Chunks.{core_shapes, is_chunk_in, is_held}
use Rattle.core_format.specs.Items.{has_number}
use Rattle.core_format.specs.Magazines.{depot_rounds_of, place_rounds}
use Rattle.core_format.specs.Slabs.{holds_chunk, past_chunks, shape_at}
use Rattle.core_format.proofs.RangeLemmas.{list_any-none}
use Rattle.heap_view.specs.declared.buffer.Buffer.{Buffer}
use Rattle.heap_view.specs.Buffers.{chunk_buffer, chunks_of, numbers_from}
use Rattle.heap_view.specs.View.{is_in_state}
use Rattle.heap_view.proofs.ListLemmas.{list_any-flat_map, list_any-same, numbers_push}

-- ---- a search by halves

pub searched_has : (numbers : List ℕ) (number : ℕ) (r : Result ℕ ℕ) → IsNonDecreasing numbers → IsBinarySearchResult (λ y. nat_cmp y number) numbers r → is_ok r ≡ has_number numbers number
searched_has numbers number r rise found = tells r (searched numbers number r found (λ i j le lt. rise i j 0 le lt))
  where
    tells : (q : Result ℕ ℕ) → MatchResult q (λ i. (i < length numbers) × (get_or numbers i 0 ≡ number)) (λ i. (i ≤ length numbers) × ((k : ℕ) → k < i → get_or numbers k 0 < number) × ((k : ℕ) → i ≤ k → k < length numbers → number < get_or numbers k 0))
        → is_ok q ≡ has_number numbers number
    tells (Ok i) h = sym (list_any_at (λ n. eqb n number) numbers i 0 h.0 (eq-eqb (get_or numbers i 0) number h.1))
    tells (Err i) h =
        sym (list_any-none (λ n. eqb n number) numbers (λ k d lt. elim (cases_lt k i) [
          | inl less ↦ let low : get_or numbers k d < number = subst (λ (n : ℕ). n < number) (get_or_default numbers k 0 d lt) (h.1 k less) in grind (arith, nat_tests)
          | inr more ↦ let high : number < get_or numbers k d = subst (λ (n : ℕ). number < n) (get_or_default numbers k 0 d lt) (h.2 k more lt) in grind (arith, nat_tests)
        ]))

-- ---- which numbers joined lists have

-- the numbers of lists and magazines are those of the held chunks
pub held_are : (core : Core) (xs ys : List ℕ) → xs ≡ (flat_map (λ (slab : SlabItem). slab.free) core.slabs ++ flat_map place_rounds core.cpu_places) ++ flat_map depot_rounds_of core.depots → IsPermutation xs ys
    → (n : ℕ) → has_number ys n ≡ is_held core n
held_are core xs ys e moves n =
    let p : ℕ → Bool = λ m. eqb m n in
    let listed = flat_map (λ (slab : SlabItem). slab.free) core.slabs in
    let placed = flat_map place_rounds core.cpu_places in
    let stored = flat_map depot_rounds_of core.depots in
    sym (list_any-IsPermutation p xs ys moves) ∙ ap (list_any p) e ∙ list_any-append p (listed ++ placed) stored
    ∙ ap (λ (b : Bool). b || list_any p stored) (list_any-append p listed placed ∙ ap (λ (b : Bool). b || list_any p placed) (list_any-flat_map p (λ (slab : SlabItem). slab.free) core.slabs))

has_numbers_from : (first count n : ℕ) → has_number (numbers_from first count) n ≡ (leb first n && ltb n (first + count))
has_numbers_from first zero n = grind (arith, nat_tests)
has_numbers_from first (suc count) n = ap (λ (b : Bool). eqb first n || b) (has_numbers_from (suc first) count n) ∙ step first count n
  where
    step : (first count n : ℕ) → (eqb first n || (leb (suc first) n && ltb n (suc first + count))) ≡ (leb first n && ltb n (first + suc count))
    step first count n = grind (arith, nat_tests)

-- the numbers of all slabs are those of the chunks
pub chunks_are : (core : Core) (xs ys : List ℕ) → xs ≡ flat_map (chunks_of core) core.slabs → IsPermutation xs ys → (n : ℕ) → has_number ys n ≡ is_chunk_in core n
chunks_are core xs ys e moves n =
    let p : ℕ → Bool = λ m. eqb m n in
    sym (list_any-IsPermutation p xs ys moves) ∙ ap (list_any p) e ∙ list_any-flat_map p (chunks_of core) core.slabs
    ∙ list_any-same (λ slab. has_number (chunks_of core slab) n) (holds_chunk (core_shapes core) n) core.slabs (λ slab. has_numbers_from slab.first (shape_at (core_shapes core) slab.cache).rounds n)

-- ---- one number more

-- a chunk of a slab is one of the core
pub is_chunk : (core : Core) (slab : SlabItem) (n : ℕ) → Contains core.slabs slab → slab.first ≤ n → n < past_chunks (core_shapes core) slab → is_chunk_in core n ≡ true
is_chunk core slab n has low high =
    let holds : holds_chunk (core_shapes core) n slab ≡ true = grind (arith, nat_tests) in
    list_any_at (holds_chunk (core_shapes core) n) core.slabs has.0 slab has.1 (subst (λ (s : SlabItem). holds_chunk (core_shapes core) n s ≡ true) (sym has.2) holds)

wanted_is : (chunk held free : Bool) → chunk ≡ true → cond free (chunk && held) (chunk && not held) ≡ cond free held (not held)
wanted_is true held free e = refl
wanted_is false held free e = absurd cc

-- the buffers of a slab with those of one chunk more
pub slab_more : (core : Core) (slab : SlabItem) (free held : Bool) (index more : ℕ) (old now : List Buffer) (start : List Buffer) → Contains core.slabs slab → slab.first + index < past_chunks (core_shapes core) slab → more ≡ suc index
    → held ≡ is_held core (slab.first + index) → old ≡ start ++ map (chunk_buffer core slab) (filter (is_in_state core free) (numbers_from slab.first index))
    → now ≡ old ++ cond (cond free held (not held)) (chunk_buffer core slab (slab.first + index) ∷ []) []
    → now ≡ start ++ map (chunk_buffer core slab) (filter (is_in_state core free) (numbers_from slab.first more))
slab_more core slab free held index more old now start has high e held-is old-is now-is =
    let f = chunk_buffer core slab in
    let p = is_in_state core free in
    let n = slab.first + index in
    let test : cond free held (not held) ≡ p n = ap (λ (b : Bool). cond free b (not b)) held-is ∙ sym (wanted_is (is_chunk_in core n) (is_held core n) free (is_chunk core slab n has (omega arith) high)) in
    let last : cond (p n) (f n ∷ []) [] ≡ map f (filter p (n ∷ [])) = by_test (p n) in
    let joined : map f (filter p (numbers_from slab.first more)) ≡ map f (filter p (numbers_from slab.first index)) ++ map f (filter p (n ∷ [])) =
    ap (λ (ns : List ℕ). map f (filter p ns)) (numbers_push slab.first index more e) ∙ ap (map f) (filter-append p (numbers_from slab.first index) (n ∷ [])) ∙ map-append f (filter p (numbers_from slab.first index)) (filter p (n ∷ [])) in
    now-is ∙ ap (λ (xs : List Buffer). xs ++ cond (cond free held (not held)) (f n ∷ []) []) old-is ∙ ap (λ (b : Bool). (start ++ map f (filter p (numbers_from slab.first index))) ++ cond b (f n ∷ []) []) test
    ∙ ap (λ (xs : List Buffer). (start ++ map f (filter p (numbers_from slab.first index))) ++ xs) last ∙ append_assoc start (map f (filter p (numbers_from slab.first index))) (map f (filter p (n ∷ []))) ∙ ap (λ (xs : List Buffer). start ++ xs) (sym joined)
  where
    by_test : (b : Bool) → cond b (chunk_buffer core slab (slab.first + index) ∷ []) [] ≡ map (chunk_buffer core slab) (cond b ((slab.first + index) ∷ []) [])
    by_test true = refl
    by_test false = refl

-- the numbers of a slab with one more
pub numbers_more : (first index more : ℕ) (start old now : List ℕ) → more ≡ suc index → old ≡ start ++ numbers_from first index → now ≡ old ++ (first + index) ∷ [] → now ≡ start ++ numbers_from first more
numbers_more first index more start old now e old-is now-is =
    now-is ∙ ap (λ (xs : List ℕ). xs ++ (first + index) ∷ []) old-is ∙ append_assoc start (numbers_from first index) ((first + index) ∷ []) ∙ ap (λ (xs : List ℕ). start ++ xs) (sym (numbers_push first index more e))
