-- Numbers that rise from one to the next.
use Rattle.std.proofs.Common.{◌≡◌, ℕ, Result, Ok, Err, zero, suc, ◌+◌, ◌<◌, ◌≤◌, List, [], ◌∷◌, ◌++◌, length, get_or, refl, sym, ap, ◌∙◌, subst, arith, inl, inr}
use Rattle.std.specs.Prelude.{All, AllPairs, Contains, MatchOption, slice_index}
use Rattle.std.specs.Ordering.{nat_cmp}
use Rattle.std.specs.Result.{result_err}
use Rattle.std.specs.List.{range_with_len}
use Rattle.std.specs.List.Sorted.{IsStrictlyIncreasing, IsBinarySearchResult}
use Rattle.std.proofs.lemmas.Bool.{cases_lt, cases_order}
use Rattle.std.proofs.lemmas.List.{get_or_default}
use Rattle.std.proofs.lemmas.List.Elements.{Contains-get_or}
use Rattle.std.proofs.lemmas.List.FromFn.{get_or-range_with_len, length-range_with_len}
use Rattle.std.proofs.lemmas.List.Kept.{AllPairs-from_increasing}
use Rattle.std.proofs.lemmas.List.Sorted.{searched}
use Rattle.umem_base.specs.Ordered.{SplitsBy, left_out_by, put_by}
use Rattle.umem_base.proofs.OrderedLemmas.{AllPairs-put_by, left_out_by-drops, left_out_by-none}
use Rattle.slab_layer.specs.Rounds.{AreConsecutive}

-- the numbers rise, and none is below `low`
abbrev pub Rises : ℕ → List ℕ → Type 0
Rises low [] = Unit {0}
Rises low (x ∷ xs) = (low ≤ x) × Rises (suc x) xs

-- none reaches `high`
abbrev pub Ends : ℕ → List ℕ → Type 0
Ends high xs = All (λ x. x < high) xs

Rises-from_pairs : (low : ℕ) (xs : List ℕ) → All (λ x. low ≤ x) xs → AllPairs (λ x y. x < y) xs → Rises low xs
Rises-from_pairs low [] above pairs = tt
Rises-from_pairs low (x ∷ xs) above pairs = (
  above 0 x (omega arith),
  Rises-from_pairs (suc x) xs (λ k d lt. omega (arith, pairs 0 (suc k) d (omega arith) (omega arith))) (λ i j d less lt. pairs (suc i) (suc j) d (omega arith) (omega arith)),
)

pub Rises-from_increasing : (low : ℕ) (xs : List ℕ) → All (λ x. low ≤ x) xs → IsStrictlyIncreasing xs → Rises low xs
Rises-from_increasing low xs above rising = Rises-from_pairs low xs above (AllPairs-from_increasing xs rising)

pub All-from_rises : (low : ℕ) (xs : List ℕ) → Rises low xs → All (λ x. low ≤ x) xs
All-from_rises low [] h k d lt = absurd (omega arith)
All-from_rises low (x ∷ xs) h zero d lt = h.0
All-from_rises low (x ∷ xs) h (suc k) d lt = omega (arith, h.0, All-from_rises (suc x) xs h.1 k d (omega arith))

AllPairs-from_rises : (low : ℕ) (xs : List ℕ) → Rises low xs → AllPairs (λ x y. x < y) xs
AllPairs-from_rises low [] h i j d less lt = absurd (omega arith)
AllPairs-from_rises low (x ∷ xs) h zero zero d less lt = absurd (omega arith)
AllPairs-from_rises low (x ∷ xs) h zero (suc j) d less lt = omega (arith, All-from_rises (suc x) xs h.1 j d (omega arith))
AllPairs-from_rises low (x ∷ xs) h (suc i) zero d less lt = absurd (omega arith)
AllPairs-from_rises low (x ∷ xs) h (suc i) (suc j) d less lt = AllPairs-from_rises (suc x) xs h.1 i j d (omega arith) (omega arith)

pub increasing_from_Rises : (low : ℕ) (xs : List ℕ) → Rises low xs → IsStrictlyIncreasing xs
increasing_from_Rises low xs h k lt = AllPairs-from_rises low xs h k (k + 1) 0 (omega arith) lt

pub Rises-lower : (low low' : ℕ) (xs : List ℕ) → low' ≤ low → Rises low xs → Rises low' xs
Rises-lower low low' [] le h = tt
Rises-lower low low' (x ∷ xs) le h = (omega (arith, h.0), h.1)

-- a list and one that begins where it ends
pub Rises-append : (low high : ℕ) (xs ys : List ℕ) → low ≤ high → Rises low xs → Ends high xs → Rises high ys → Rises low (xs ++ ys)
Rises-append low high [] ys le h ends rest = Rises-lower high low ys le rest
Rises-append low high (x ∷ xs) ys le h ends rest =
    (h.0, Rises-append (suc x) high xs ys (omega (arith, ends 0 x (omega arith))) h.1 (λ k d lt. ends (suc k) d (omega arith)) rest)

-- ---- how many there are

pub length-rises : (low high : ℕ) (xs : List ℕ) → low ≤ high → Rises low xs → Ends high xs → low + length xs ≤ high
length-rises low high [] le h ends = omega arith
length-rises low high (x ∷ xs) le h ends =
    let rest = length-rises (suc x) high xs (omega (arith, ends 0 x (omega arith))) h.1 (λ k d lt. ends (suc k) d (omega arith)) in
    omega (arith, h.0)

-- as many as there is room for are all of them
pub range_from_Rises : (low n : ℕ) (xs : List ℕ) → Rises low xs → Ends (low + n) xs → length xs ≡ n → xs ≡ range_with_len low n
range_from_Rises low zero [] h ends len = refl
range_from_Rises low zero (x ∷ xs) h ends len = absurd (omega arith)
range_from_Rises low (suc n) [] h ends len = absurd (omega arith)
range_from_Rises low (suc n) (x ∷ xs) h ends len =
    let rest = length-rises (suc x) (low + suc n) xs (omega (arith, ends 0 x (omega arith))) h.1 (λ k d lt. ends (suc k) d (omega arith)) in
    let first : x ≡ low = omega (arith, h.0) in
    let above : Rises (low + 1) xs = Rises-lower (suc x) (low + 1) xs (omega arith) h.1 in
    let tail : xs ≡ range_with_len (low + 1) n = range_from_Rises (low + 1) n xs above (λ k d lt. omega (arith, ends (suc k) d (omega arith))) (omega arith) in
    rw (first, tail) refl

pub Rises-range : (low n : ℕ) → Rises low (range_with_len low n)
Rises-range low zero = tt
Rises-range low (suc n) = (omega arith, Rises-lower (low + 1) (suc low) (range_with_len (low + 1) n) (omega arith) (Rises-range (low + 1) n))

pub range_more : (low n : ℕ) → range_with_len low (suc n) ≡ range_with_len low n ++ (low + n) ∷ []
range_more low zero = let same : low + 0 ≡ low = omega arith in rw same refl
range_more low (suc n) =
    let next : low + 1 + n ≡ low + suc n = omega arith in
    ap (λ (xs : List ℕ). low ∷ xs) (rw next at (range_more (low + 1) n))

pub AreConsecutive-range : (low n : ℕ) → AreConsecutive (range_with_len low n)
AreConsecutive-range low zero = refl
AreConsecutive-range low (suc n) = ap (λ (k : ℕ). range_with_len low (suc k)) (sym (length-range_with_len (low + 1) n))

-- the numbers of a list where each is one more than the one before
pub get_or-consecutive : (xs : List ℕ) (k d : ℕ) → AreConsecutive xs → k < length xs → get_or xs k d ≡ slice_index xs 0 + k
get_or-consecutive xs k d h lt = ap (λ (l : List ℕ). get_or l k d) h ∙ get_or-range_with_len (slice_index xs 0) (length xs) k d lt

pub Rises-consecutive : (xs : List ℕ) → AreConsecutive xs → Rises (slice_index xs 0) xs
Rises-consecutive xs h = let P : List ℕ → Type 0 = λ l. Rises (slice_index xs 0) l in subst P (sym h) (Rises-range (slice_index xs 0) (length xs))

pub Ends-consecutive : (xs : List ℕ) → AreConsecutive xs → Ends (slice_index xs 0 + length xs) xs
Ends-consecutive xs h k d lt = omega (arith, get_or-consecutive xs k d h lt)

-- ---- one number more

pub increasing-put_by : (xs : List ℕ) (c : ℕ) → IsStrictlyIncreasing xs → (Contains xs c → ⊥) → IsStrictlyIncreasing (put_by (λ number. number) xs c)
increasing-put_by xs c rising absent =
    let pairs = AllPairs-from_increasing xs rising in
    let below : All (λ x. x ≤ c → x < c) xs = λ k d lt le. elim (cases_order (get_or xs k d) c) [
      | inl same ↦ absurd (absent (rw same at (Contains-get_or xs k d lt)))
      | inr (inl less) ↦ less
      | inr (inr more) ↦ absurd (omega arith)
    ] in
    let more = AllPairs-put_by (λ (x y : ℕ). x < y) (λ number. number) xs c (λ i j d less lt. omega (arith, pairs i j d less lt)) pairs below (λ k d lt above. above) in
    λ k lt. more k (k + 1) 0 (omega arith) lt

in_order : (xs : List ℕ) → IsStrictlyIncreasing xs → (i j : ℕ) → i ≤ j → j < length xs → get_or xs i 0 ≤ get_or xs j 0
in_order xs rising i j le lt =
    elim (cases_lt i j) [
      | inl less ↦ omega (arith, AllPairs-from_increasing xs rising i j 0 less lt)
      | inr more ↦ let same : i ≡ j = omega arith in rw same (omega arith)
    ]

-- what a binary search says
pub searched_place : (xs : List ℕ) (c : ℕ) (r : Result ℕ ℕ) → IsStrictlyIncreasing xs → IsBinarySearchResult (λ x. nat_cmp x c) xs r → MatchOption (result_err r) (Contains xs c) (SplitsBy (λ x. x < c) (λ x. c < x) xs)
searched_place xs c (Ok i) rising h =
    let found = searched xs c (Ok i) h (in_order xs rising) in
    (i, found.0, get_or_default xs i c 0 found.0 ∙ found.1)
searched_place xs c (Err i) rising h =
    let place = searched xs c (Err i) h (in_order xs rising) in
    record {
      within = place.0;
      before = λ k d lt. rw (get_or_default xs k d 0 (omega (arith, place.0))) (place.1 k lt);
      behind = λ k d le lt. rw (get_or_default xs k d 0 lt) (place.2 k le lt);
    }

-- ---- one number less

pub left_out_by-absent : (c : ℕ) (xs : List ℕ) → (Contains xs c → ⊥) → left_out_by (λ number. number) xs c ≡ xs
left_out_by-absent c xs absent = left_out_by-none (λ number. number) xs c (λ k d lt e. absent (rw e at (Contains-get_or xs k d lt)))

pub left_out_by-first : (c : ℕ) (xs : List ℕ) → Rises (suc c) xs → left_out_by (λ number. number) (c ∷ xs) c ≡ xs
left_out_by-first c xs h =
    left_out_by-drops (λ number. number) c xs c refl ∙ left_out_by-none (λ number. number) xs c (λ k d lt e. omega (arith, All-from_rises (suc c) xs h k d lt))
