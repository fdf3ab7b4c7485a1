-- A slab more, and complete slabs fewer.
use Rattle.std.proofs.Common.{◌≡◌, ◌≢◌, ℕ, zero, suc, ◌+◌, ◌-◌, ◌<◌, ◌≤◌, true, false, not, List, [], ◌∷◌, ◌++◌, Option, length, length-append, get_or, drop, map, refl, sym, ap, ◌∙◌, append_assoc, subst, arith, inl, inr}
use Rattle.std.specs.Prelude.{All, AllPairs, Any, Contains, filter, is_some, remove, slice_index}
use Rattle.std.specs.List.{flat_map, range_with_len}
use Rattle.std.specs.List.Sorted.{IsPermutation}
use Rattle.std.proofs.lemmas.Bool.{cases_Bool, not_from_false, true_from_ne_false}
use Rattle.std.proofs.lemmas.List.{append-nil, map-append}
use Rattle.std.proofs.lemmas.List.Concat.{flat_map-append}
use Rattle.std.proofs.lemmas.List.Edits.{length-remove}
use Rattle.std.proofs.lemmas.List.Elements.{All-append, All-cons, All-filter, All-push, All-tail, Contains-append_right, Contains-get_or}
use Rattle.std.proofs.lemmas.List.FromFn.{get_or-range_with_len, length-range_with_len}
use Rattle.std.proofs.lemmas.List.Kept.{AllPairs-filter, AllPairs-from_increasing}
use Rattle.std.proofs.lemmas.List.Sorted.{All-permutation, Contains-permutation, IsPermutation-append_comm, IsPermutation-append_right, IsPermutation-cons, IsPermutation-sym, IsPermutation-trans}
use Rattle.std.proofs.Math.Seq.{get_or-append_seam}
use Rattle.slab_layer.specs.Rounds.{AreConsecutive}
use Rattle.slab_layer.specs.Slab.{HasChunk, IsApartBelow, IsComplete, IsSlab, Slab, is_complete, slab_of, without_chunk}
use Rattle.slab_layer.specs.Slabs.{AreSlabs, HasLowestComplete, listed_rounds, without_complete, without_round, without_slab_at}
use Rattle.slab_layer.proofs.RoundsLemmas.{Rises-consecutive, get_or-consecutive, increasing_from_Rises, left_out_by-first}
use Rattle.slab_layer.proofs.SlabLemmas.{decides_complete}
use Rattle.slab_layer.proofs.SlabsLemmas.{Contains-rounds, remove-without_slab_at}
use Rattle.shelf.specs.Laws.{AddsSlab, DropsComplete}
use Rattle.shelf.specs.Steps.{complete_slabs, opened_slab, with_slab_of, without_complete_slabs}
use Rattle.shelf.specs.Stock.{IsStock, Stock, held_rounds, magazine_rounds}
use Rattle.shelf.proofs.Lists.{AllPairs-push, Any-filter, Any-last, Any-left, AreDistinct, AreDistinct-append, AreDistinct-behind, AreDistinct-permutation, AreDistinct-tail, apart_in_distinct, exchange, flat_map-filters, nil_of_append, not_in_rest}

-- ---- a slab more

-- consecutive rounds are the first one and the others
pub first_round : (rounds : List ℕ) → 0 < length rounds → rounds ≡ slice_index rounds 0 ∷ drop 1 rounds
first_round [] some = absurd (omega arith)
first_round (x ∷ xs) some = refl

IsSlab-opened : (base : ℕ) (rounds : List ℕ) → IsSlab (slab_of base rounds) → IsSlab (opened_slab base rounds)
IsSlab-opened base [] h = absurd (omega (arith, h.some))
IsSlab-opened base (x ∷ xs) h = record {
  some = h.some;
  fits = h.fits;
  rising = λ k lt. AllPairs-from_increasing (x ∷ xs) h.rising (suc k) (suc (k + 1)) 0 (omega arith) (omega arith);
  own = λ k d lt. h.own (suc k) d (omega arith);
}

AreSlabs-more : (ss : List Slab) (base : ℕ) (rounds : List ℕ) → AreSlabs ss → IsSlab (slab_of base rounds) → All (IsApartBelow (slab_of base rounds)) ss → AreSlabs (ss ++ opened_slab base rounds ∷ [])
AreSlabs-more ss base rounds h is apart = record {
  each = All-push IsSlab ss (opened_slab base rounds) h.each (IsSlab-opened base rounds is);
  apart = AllPairs-push (λ one other. one.first + one.count ≤ other.first) ss (opened_slab base rounds) h.apart (λ k d lt. (apart k d lt).1);
  bases = AllPairs-push (λ one other. one.base ≢ other.base) ss (opened_slab base rounds) h.bases (λ k d lt. (apart k d lt).0);
}

listed_more : (ss : List Slab) (base : ℕ) (rounds : List ℕ) → listed_rounds (ss ++ opened_slab base rounds ∷ []) ≡ listed_rounds ss ++ drop 1 rounds
listed_more ss base rounds =
    flat_map-append (λ (s : Slab). s.list) ss (opened_slab base rounds ∷ []) ∙ ap (λ (l : List ℕ). listed_rounds ss ++ l) (append-nil (drop 1 rounds))

rest_behind : (first : ℕ) (rest magazines listed : List ℕ) → IsPermutation ((first ∷ rest) ++ (magazines ++ listed)) (first ∷ (magazines ++ (listed ++ rest)))
rest_behind first rest magazines listed =
    IsPermutation-cons first _ _ (rw (← append_assoc magazines listed rest) (IsPermutation-append_comm rest (magazines ++ listed)))

holds_more : (stock : Stock) (base : ℕ) (rounds : List ℕ) → 0 < length rounds → IsPermutation (rounds ++ held_rounds stock) (slice_index rounds 0 ∷ held_rounds (with_slab_of stock base rounds))
holds_more stock base rounds some =
    let P : List ℕ → Type 0 = λ l. IsPermutation (l ++ held_rounds stock) (slice_index rounds 0 ∷ held_rounds (with_slab_of stock base rounds)) in
    subst P (sym (first_round rounds some))
    (rw (listed_more stock.slabs base rounds) (rest_behind (slice_index rounds 0) (drop 1 rounds) (magazine_rounds stock) (listed_rounds stock.slabs)))

-- the rounds of the new slab are those of no other
not_held : (stock : Stock) (base : ℕ) (rounds : List ℕ) (c : ℕ) → IsStock stock → IsSlab (slab_of base rounds) → All (IsApartBelow (slab_of base rounds)) stock.slabs → Contains rounds c → Contains (held_rounds stock) c → ⊥
not_held stock base rounds c h is apart new old =
    let own = h.own old.0 c old.1 in
    let below : own.1.first + own.1.count ≤ slice_index rounds 0 = rw own.3 at (apart own.0 own.1 own.2).1 in
    let above : slice_index rounds 0 ≤ get_or rounds new.0 c = (is.own new.0 c new.1).0 in
    omega (arith, below, above, new.2, old.2, own.4.1)

own_more : (stock : Stock) (base : ℕ) (rounds : List ℕ) → IsStock stock → IsSlab (slab_of base rounds) → All (λ c. Any (HasChunk c) (stock.slabs ++ opened_slab base rounds ∷ [])) (rounds ++ held_rounds stock)
own_more stock base rounds h is =
    let P : ℕ → Type 0 = λ c. Any (HasChunk c) (stock.slabs ++ opened_slab base rounds ∷ []) in
    All-append P rounds (held_rounds stock)
    (λ k d lt. Any-last (HasChunk (get_or rounds k d)) stock.slabs (opened_slab base rounds) (is.own k d lt))
    (λ k d lt. Any-left (HasChunk (get_or (held_rounds stock) k d)) stock.slabs (opened_slab base rounds ∷ []) (h.own k d lt))

pub with_slab_of_is : (stock : Stock) (base : ℕ) (rounds : List ℕ) → IsStock stock → IsSlab (slab_of base rounds) → All (IsApartBelow (slab_of base rounds)) stock.slabs → AddsSlab stock rounds (with_slab_of stock base rounds)
with_slab_of_is stock base rounds h is apart =
    let new = stock.slabs ++ opened_slab base rounds ∷ [] in
    let holds = holds_more stock base rounds is.some in
    let rising : AreDistinct rounds = λ i j d less lt e. omega (arith, AllPairs-from_increasing rounds is.rising i j d less lt, e) in
    let distinct = AreDistinct-append rounds (held_rounds stock) rising h.distinct (λ c. not_held stock base rounds c h is apart) in
    let all = AreDistinct-permutation _ _ holds distinct in
    let own = All-permutation (λ c. Any (HasChunk c) new) _ _ holds (own_more stock base rounds h is) in
    record {
      holds = holds;
      out = record { known = own 0 (slice_index rounds 0) (omega arith); out = not_in_rest (slice_index rounds 0) _ all };
      sound = record {
        some = h.some;
        cpus = h.cpus;
        few = h.few;
        filled = h.filled;
        slabs = AreSlabs-more stock.slabs base rounds h.slabs is apart;
        distinct = AreDistinct-tail (slice_index rounds 0) _ all;
        own = All-tail (λ c. Any (HasChunk c) new) (slice_index rounds 0) _ own;
      };
    }

-- ---- the first round of it is taken

no_lists : (ss : List Slab) (c : ℕ) → listed_rounds ss ≡ [] → without_round ss c ≡ ss
no_lists [] c e = refl
no_lists (s ∷ ss) c e =
    let parts = nil_of_append s.list (listed_rounds ss) e in
    let here : without_chunk c s ≡ s = ap (λ (l : List ℕ). let t : Slab = record s { list = l } in t) (rw parts.0 refl) in
    rw here (ap (λ (l : List Slab). s ∷ l) (no_lists ss c parts.1))

without_first : (base : ℕ) (rounds : List ℕ) → 0 < length rounds → AreConsecutive rounds → without_chunk (slice_index rounds 0) (slab_of base rounds) ≡ opened_slab base rounds
without_first base [] some rising = absurd (omega arith)
without_first base (x ∷ xs) some rising =
    let rises = Rises-consecutive (x ∷ xs) rising in
    ap (λ (l : List ℕ). let t : Slab = record (slab_of base (x ∷ xs)) { list = l } in t) (left_out_by-first x xs rises.1)

pub opened_is : (ss : List Slab) (base : ℕ) (rounds : List ℕ) → listed_rounds ss ≡ [] → 0 < length rounds → AreConsecutive rounds → without_round (ss ++ slab_of base rounds ∷ []) (slice_index rounds 0) ≡ ss ++ opened_slab base rounds ∷ []
opened_is ss base rounds none some rising =
    rw (map-append (without_chunk (slice_index rounds 0)) ss (slab_of base rounds ∷ []), no_lists ss (slice_index rounds 0) none)
    (ap (λ (s : Slab). ss ++ s ∷ []) (without_first base rounds some rising))

pub listed_alone : (ss : List Slab) (base : ℕ) (rounds : List ℕ) → listed_rounds ss ≡ [] → listed_rounds (ss ++ slab_of base rounds ∷ []) ≡ rounds
listed_alone ss base rounds none =
    flat_map-append (λ (s : Slab). s.list) ss (slab_of base rounds ∷ []) ∙ rw none (append-nil rounds)

-- ---- complete slabs fewer

holds_fewer : (stock : Stock) → IsPermutation (held_rounds stock) (listed_rounds (complete_slabs stock) ++ held_rounds (without_complete_slabs stock))
holds_fewer stock =
    IsPermutation-trans _ _ _
    (IsPermutation-append_right (magazine_rounds stock) _ _ (flat_map-filters (λ (s : Slab). s.list) is_complete stock.slabs))
    (exchange (magazine_rounds stock) (listed_rounds (complete_slabs stock)) (listed_rounds (without_complete stock.slabs)))

-- a chunk of a complete slab stands in its list
in_list : (s : Slab) (c : ℕ) → IsSlab s → is_complete s ≡ true → HasChunk c s → Contains s.list c
in_list s c sound complete has =
    let all : s.list ≡ range_with_len s.first s.count = (decides_complete s sound).0 complete in
    let P : List ℕ → Type 0 = λ l. Contains l c in
    subst P (sym all) (c - s.first, omega (arith, has.0, has.1, length-range_with_len s.first s.count), omega (arith, get_or-range_with_len s.first s.count (c - s.first) c (omega (arith, has.0, has.1)), has.0))

stands_still : (stock : Stock) (c : ℕ) → IsStock stock → AreDistinct (listed_rounds (complete_slabs stock) ++ held_rounds (without_complete_slabs stock)) → Contains (held_rounds (without_complete_slabs stock)) c → Any (HasChunk c) stock.slabs → Any (HasChunk c) (without_complete stock.slabs)
stands_still stock c h distinct held at =
    let s = at.1 in
    let sound : IsSlab s = rw at.3 at (h.slabs.each at.0 s at.2) in
    elim (cases_Bool (is_complete s)) [
      | inl complete ↦
          let there = Any-filter (λ (t : Slab). Contains t.list c) is_complete stock.slabs at.0 s at.2 at.3 (in_list s c sound complete at.4) complete in
          absurd (apart_in_distinct (listed_rounds (complete_slabs stock)) (held_rounds (without_complete_slabs stock)) c distinct (Contains-rounds (complete_slabs stock) there.0 c there.1 there.2 (rw there.3 there.4)) held)
      | inr other ↦ Any-filter (HasChunk c) (λ (t : Slab). not (is_complete t)) stock.slabs at.0 s at.2 at.3 at.4 (not_from_false _ other)
    ]

pub without_complete_is : (stock : Stock) → IsStock stock → DropsComplete stock (without_complete_slabs stock)
without_complete_is stock h =
    let holds = holds_fewer stock in
    let distinct = AreDistinct-permutation _ _ holds h.distinct in
    let new = held_rounds (without_complete_slabs stock) in
    let p = λ (s : Slab). not (is_complete s) in
    record {
      holds = holds;
      sound = record {
        some = h.some;
        cpus = h.cpus;
        few = h.few;
        filled = h.filled;
        slabs = record {
          each = All-filter p IsSlab stock.slabs h.slabs.each;
          apart = AllPairs-filter (λ one other. one.first + one.count ≤ other.first) p stock.slabs h.slabs.apart;
          bases = AllPairs-filter (λ one other. one.base ≢ other.base) p stock.slabs h.slabs.bases;
        };
        distinct = AreDistinct-behind (listed_rounds (complete_slabs stock)) new distinct;
        own = λ k d lt.
            let held = Contains-get_or new k d lt in
            let old = Contains-permutation _ _ (get_or new k d) (IsPermutation-sym _ _ holds) (Contains-append_right (listed_rounds (complete_slabs stock)) new (get_or new k d) held) in
            stands_still stock (get_or new k d) h distinct held (rw old.2 at (h.own old.0 (get_or new k d) old.1));
      };
    }

-- ---- slabs that are dropped one by one

-- what is left after the lowest complete slab was dropped
pub fewer : (ss ns : List Slab) (base : ℕ) (rounds : List ℕ) → AreSlabs ss → HasLowestComplete ss base rounds → ns ≡ without_slab_at ss base → length ns < length ss
fewer ss ns base rounds h (i, s, lt, is, (lowest, at, list)) same =
    let gone : remove ss i ≡ ns = remove-without_slab_at ss i s h lt (sym is) ∙ ap (without_slab_at ss) (sym at) ∙ sym same in
    omega (arith, length-remove ss i lt, ap length gone)

-- ---- the slab that was added

pub last_slab : (ss : List Slab) (s : Slab) → AreSlabs (ss ++ s ∷ []) → IsSlab s
last_slab ss s h =
    let last = h.each (length ss) s (omega (arith, length-append ss (s ∷ []))) in
    rw (get_or-append_seam ss s [] s) at last

pub some_taken : (ss bs : List Slab) (base : ℕ) (rounds : List ℕ) (r : Option ℕ) → 0 < length rounds → listed_rounds ss ≡ [] → bs ≡ ss ++ slab_of base rounds ∷ [] → (is_some r ≡ false → listed_rounds bs ≡ []) → is_some r ≡ true
some_taken ss bs base rounds r some none is empty =
    true_from_ne_false (is_some r) (λ e.
    let nothing : rounds ≡ [] = sym (listed_alone ss base rounds none) ∙ ap listed_rounds (sym is) ∙ empty e in
    omega (arith, ap length nothing))

pub taken_first : (ss bs ns : List Slab) (base : ℕ) (rounds : List ℕ) (round : ℕ) → 0 < length rounds → AreConsecutive rounds → listed_rounds ss ≡ [] → bs ≡ ss ++ slab_of base rounds ∷ [] → listed_rounds bs ≡ round ∷ listed_rounds ns → ns ≡ without_round bs round → (round ≡ slice_index rounds 0) × (ns ≡ ss ++ opened_slab base rounds ∷ [])
taken_first ss bs ns base rounds round some rising none is first taken =
    let all : rounds ≡ round ∷ listed_rounds ns = sym (listed_alone ss base rounds none) ∙ ap listed_rounds (sym is) ∙ first in
    let same : round ≡ slice_index rounds 0 = sym (ap (λ (l : List ℕ). slice_index l 0) all) in
    (same, taken ∙ rw (is, same) (opened_is ss base rounds none some rising))
