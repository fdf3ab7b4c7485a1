-- What a search in a list finds, lists that are joined, and numbers that follow one another.
use Rattle.std.proofs.Common.{◌≡◌, ◌≢◌, ℕ, zero, suc, ◌+◌, ◌-◌, ◌<◌, ◌≤◌, Bool, true, false, cond, ◌||◌, List, [], ◌∷◌, ◌++◌, length, get_or, Some, None, refl, sym, ap, subst, ◌∙◌, arith, inl, inr, length-append}
use Rattle.std.specs.List.{All, AllPairs, find, flat_map, list_any}
use Rattle.std.proofs.lemmas.Bool.{cases_lt, or_parts}
use Rattle.std.proofs.lemmas.List.{get_or_append_left, get_or-append_right}
use Rattle.std.proofs.lemmas.List.Elements.{All-append, All-nil, All-tail}
use Rattle.std.proofs.lemmas.List.Folds.{list_any-append}
use Rattle.heap_view.specs.Buffers.{numbers_from}

-- ---- a search

-- the first item that passes a test is found
pub find_first : {X : Type 0} (p : X → Bool) (xs : List X) (i : ℕ) (d : X) → i < length xs → p (get_or xs i d) ≡ true → ((k : ℕ) → k < i → p (get_or xs k d) ≡ false) → find p xs ≡ Some (get_or xs i d)
find_first p [] i d lt good bad = absurd (omega arith)
find_first p (x ∷ xs) zero d lt good bad = rw good refl
find_first p (x ∷ xs) (suc i) d lt good bad =
    let first : p x ≡ false = bad 0 (omega arith) in
    rw first (find_first p xs i d (omega arith) good (λ k less. bad (suc k) (omega arith)))

-- so is the only one
pub find_only : {X : Type 0} (p : X → Bool) (xs : List X) (i : ℕ) (d : X) → i < length xs → p (get_or xs i d) ≡ true → ((k : ℕ) (e : X) → k < length xs → k ≢ i → p (get_or xs k e) ≡ false) → find p xs ≡ Some (get_or xs i d)
find_only p xs i d lt good bad = find_first p xs i d lt good (λ k less. bad k d (omega arith) (λ same. absurd (omega arith)))

-- nothing is found where none passes it
pub find_none : {X : Type 0} (p : X → Bool) (xs : List X) → ((k : ℕ) (e : X) → k < length xs → p (get_or xs k e) ≡ false) → find p xs ≡ None
find_none p [] bad = refl
find_none p (x ∷ xs) bad =
    let first : p x ≡ false = bad 0 x (omega arith) in
    rw first (find_none p xs (λ k e less. bad (suc k) e (omega arith)))

-- what is found passes the test
pub found_passes : {X : Type 0} (p : X → Bool) (xs : List X) (x : X) → find p xs ≡ Some x → p x ≡ true
found_passes p [] x e = absurd cc
found_passes {X} p (y ∷ ys) x e = by_test (p y) refl e (found_passes p ys x)
  where
    some_same : (a b : X) → Some a ≡ Some b → a ≡ b
    some_same a b e = cc

    by_test : (b : Bool) → b ≡ p y → cond b (Some y) (find p ys) ≡ Some x → (find p ys ≡ Some x → p x ≡ true) → p x ≡ true
    by_test true q e rest = subst (λ (z : X). p z ≡ true) (some_same y x e) (sym q)
    by_test false q e rest = rest e

-- no item passes a test that none of the list passes
pub none_passes : {X : Type 0} (p : X → Bool) (xs : List X) (k : ℕ) (d : X) → list_any p xs ≡ false → k < length xs → p (get_or xs k d) ≡ false
none_passes p [] k d e lt = absurd (omega arith)
none_passes p (x ∷ xs) zero d e lt = (or_parts (p x) (list_any p xs) e).0
none_passes p (x ∷ xs) (suc k) d e lt = none_passes p xs k d (or_parts (p x) (list_any p xs) e).1 (omega arith)

-- ---- lists that are joined

pub list_any-flat_map : {X Y : Type 0} (p : Y → Bool) (f : X → List Y) (xs : List X) → list_any p (flat_map f xs) ≡ list_any (λ x. list_any p (f x)) xs
list_any-flat_map p f [] = refl
list_any-flat_map p f (x ∷ xs) = list_any-append p (f x) (flat_map f xs) ∙ ap (λ (b : Bool). list_any p (f x) || b) (list_any-flat_map p f xs)

-- two tests that answer alike
pub list_any-same : {X : Type 0} (p q : X → Bool) (xs : List X) → ((x : X) → p x ≡ q x) → list_any p xs ≡ list_any q xs
list_any-same p q [] same = refl
list_any-same p q (x ∷ xs) same = rw (same x, list_any-same p q xs same) refl

pub All-flat_map : {X Y : Type 0} (P : Y → Type 0) (f : X → List Y) (xs : List X) → All (λ x. All P (f x)) xs → All P (flat_map f xs)
All-flat_map P f [] all = All-nil P
All-flat_map P f (x ∷ xs) all = All-append P (f x) (flat_map f xs) (all 0 x (omega arith)) (All-flat_map P f xs (All-tail (λ y. All P (f y)) x xs all))

pub AllPairs-append : {X : Type 0} (R : X → X → Type 0) (xs ys : List X) → AllPairs R xs → AllPairs R ys → ((i j : ℕ) (d e : X) → i < length xs → j < length ys → R (get_or xs i d) (get_or ys j e)) → AllPairs R (xs ++ ys)
AllPairs-append R xs ys left right between = λ i j d lt within.
    let long = length-append xs ys in
    elim (cases_lt j (length xs)) [
      | inl low ↦ rw (get_or_append_left xs ys d i (omega arith), get_or_append_left xs ys d j low) (left i j d lt low)
      | inr high ↦ elim (cases_lt i (length xs)) [
        | inl low ↦ rw (get_or_append_left xs ys d i low, get_or-append_right xs ys (length xs) j d refl high) (between i (j - length xs) d d low (omega arith))
        | inr up ↦ rw (get_or-append_right xs ys (length xs) i d refl up, get_or-append_right xs ys (length xs) j d refl high) (right (i - length xs) (j - length xs) d (omega arith) (omega arith))
      ]
    ]

-- ---- numbers that follow one another

pub numbers_length : (first count : ℕ) → length (numbers_from first count) ≡ count
numbers_length first zero = refl
numbers_length first (suc count) = ap suc (numbers_length (suc first) count)

pub number_at : (first count k d : ℕ) → k < count → get_or (numbers_from first count) k d ≡ first + k
number_at first zero k d lt = absurd (omega arith)
number_at first (suc count) zero d lt = omega arith
number_at first (suc count) (suc k) d lt = omega (arith, number_at (suc first) count k d (omega arith))

-- they rise, and lie within the range
pub numbers_rise : (first count : ℕ) → AllPairs (λ n m. n < m) (numbers_from first count)
numbers_rise first count = λ i j d lt within.
    let long = numbers_length first count in
    omega (arith, number_at first count i d (omega arith), number_at first count j d (omega arith))

pub numbers_within : (first count : ℕ) → All (λ n. (first ≤ n) × (n < first + count)) (numbers_from first count)
numbers_within first count = λ k d lt.
    let long = numbers_length first count in
    let at = number_at first count k d (omega arith) in
    (omega arith, omega arith)

-- one number more
pub numbers_push : (first count more : ℕ) → more ≡ suc count → numbers_from first more ≡ numbers_from first count ++ (first + count) ∷ []
numbers_push first count more e = ap (numbers_from first) e ∙ one_more first count
  where
    one_more : (first count : ℕ) → numbers_from first (suc count) ≡ numbers_from first count ++ (first + count) ∷ []
    one_more first zero = ap (λ (n : ℕ). n ∷ []) (omega arith)
    one_more first (suc count) =
        let same : suc first + count ≡ first + suc count = omega arith in
        ap (λ (ns : List ℕ). first ∷ ns) (one_more (suc first) count ∙ ap (λ (n : ℕ). numbers_from (suc first) count ++ n ∷ []) same)
