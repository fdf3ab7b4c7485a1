-- The class that serves a size is the least one that holds it.
use Rattle.std.proofs.Common.{◌≡◌, ℕ, zero, suc, ◌<◌, ◌≤◌, Bool, true, false, eqb, ltb, leb, ◌&&◌, ◌+◌, ◌-◌, List, [], ◌∷◌, length, get_or, Option, Some, None, refl, sym, subst, ◌∙◌, arith, inl, inr}
use Rattle.std.specs.List.{list_all, position, position_or_len}
use Rattle.std.proofs.lemmas.Bool.{and_parts, cases_lt, eqb-true, leb-true, leb-false, le-leb, lt-leb, ltb-true, lt-ltb}
use Rattle.std.proofs.lemmas.List.Quantifiers.{position-Some}
use Rattle.std.proofs.lemmas.List.Sums.{fails_before_first, position_or_len_is}
use Rattle.std.specs.Prelude.{is_some}
use Rattle.case_table.specs.Geometry.{content_of}
use Rattle.case_table.specs.Sizes.{class_sizes, class_for, size_of, IsLeastClass}

pub class_for-value : (size : ℕ) → 0 < size → class_for size ≡ position (leb size) class_sizes
unfolding class_for
class_for-value zero h = absurd (omega arith)
class_for-value (suc n) h = refl

pub class_for-zero : (size : ℕ) → size ≡ 0 → class_for size ≡ None
unfolding class_for
class_for-zero zero h = refl
class_for-zero (suc n) h = absurd (omega arith)

pub length-class_sizes : length class_sizes ≡ 32
unfolding class_sizes
length-class_sizes = refl

pub size_of-last : size_of 31 ≡ 4096
unfolding class_sizes size_of
size_of-last = refl

all_small : (m : ℕ) (xs : List ℕ) → list_all (λ x. leb x m) xs ≡ true → (i : ℕ) → get_or xs i 0 ≤ m
all_small m [] h i = omega arith
all_small m (x ∷ xs) h zero = leb-true x m (and_parts (leb x m) (list_all (λ y. leb y m) xs) h).0
all_small m (x ∷ xs) h (suc i) = all_small m xs (and_parts (leb x m) (list_all (λ y. leb y m) xs) h).1 i

-- no class is larger than a page
pub size_of-small : (class : ℕ) → size_of class ≤ 4096
unfolding class_sizes size_of
size_of-small class = all_small 4096 class_sizes refl class

pub least_from_position : (size class : ℕ) → 0 < size → Some class ≡ position (leb size) class_sizes → IsLeastClass size class
unfolding size_of
least_from_position size class some h =
    let p = position-Some (leb size) class_sizes class 0 (sym h) in
    record { some = some; is_class = omega (arith, length-class_sizes, p.0); holds = leb-true _ _ p.1; least = λ before lt. leb-false _ _ (p.2 before lt) }

none_is_past : {A : Type 0} (p : A → Bool) (xs : List A) → None ≡ position p xs → length xs ≤ position_or_len p xs
none_is_past p xs h = elim (cases_lt (position_or_len p xs) (length xs)) [
  | inl lt ↦ let found : position p xs ≡ Some (position_or_len p xs) = rw (lt-ltb _ _ lt) refl in absurd cc
  | inr le ↦ le
]

none_unless_some : (o : Option ℕ) → ((x : ℕ) → o ≡ Some x → ⊥) → o ≡ None
none_unless_some None h = refl
none_unless_some (Some x) h = absurd (h x refl)

some_unless_none : (o : Option ℕ) → (o ≡ None → ⊥) → is_some o ≡ true
some_unless_none None h = absurd (h refl)
some_unless_none (Some x) h = refl

-- a size that no class holds is past the last one
pub large_from_none : (size : ℕ) → None ≡ position (leb size) class_sizes → 4096 < size
unfolding size_of
large_from_none size h =
    let past = none_is_past (leb size) class_sizes h in
    let last = leb-false _ _ (fails_before_first (leb size) class_sizes 31 0 (omega (arith, length-class_sizes))) in
    subst (λ (top : ℕ). top < size) size_of-last last

-- ---- the table, computed

pub test_at : (p : ℕ → Bool) (xs : List ℕ) → list_all p xs ≡ true → (i : ℕ) → i < length xs → p (get_or xs i 0) ≡ true
test_at p [] h i lt = absurd (omega arith)
test_at p (x ∷ xs) h zero lt = (and_parts (p x) (list_all p xs) h).0
test_at p (x ∷ xs) h (suc i) lt = test_at p xs (and_parts (p x) (list_all p xs) h).1 i (omega arith)

abbrev rises : List ℕ → Bool
rises [] = true
rises (x ∷ []) = true
rises (x ∷ y ∷ zs) = ltb x y && rises (y ∷ zs)

rises_at : (xs : List ℕ) → rises xs ≡ true → (i : ℕ) → suc i < length xs → get_or xs i 0 < get_or xs (suc i) 0
rises_at [] h i lt = absurd (omega arith)
rises_at (x ∷ []) h i lt = absurd (omega arith)
rises_at (x ∷ y ∷ zs) h zero lt = ltb-true x y (and_parts (ltb x y) (rises (y ∷ zs)) h).0
rises_at (x ∷ y ∷ zs) h (suc i) lt = rises_at (y ∷ zs) (and_parts (ltb x y) (rises (y ∷ zs)) h).1 i (omega arith)

rises_by : (xs : List ℕ) → rises xs ≡ true → (i n : ℕ) → suc (i + n) < length xs → get_or xs i 0 < get_or xs (suc (i + n)) 0
rises_by xs h i zero lt = let e : i + 0 ≡ i = omega arith in rw e (rises_at xs h i (omega arith))
rises_by xs h i (suc n) lt =
    let e : i + suc n ≡ suc (i + n) = omega arith in
    rw e (omega (arith, rises_by xs h i n (omega arith), rises_at xs h (suc (i + n)) (omega arith)))

-- the sizes rise
pub size_of-rises : (lower upper : ℕ) → lower < upper → upper < 32 → size_of lower < size_of upper
unfolding class_sizes size_of
size_of-rises lower upper lt top =
    let e : suc (lower + (upper - lower - 1)) ≡ upper = omega arith in
    subst (λ (k : ℕ). size_of lower < size_of k) e (rises_by class_sizes refl lower (upper - lower - 1) (omega (arith, length-class_sizes)))

-- each size is above zero
pub size_of-some : (class : ℕ) → class < 32 → 0 < size_of class
unfolding class_sizes size_of
size_of-some class lt = ltb-true 0 (size_of class) (test_at (ltb 0) class_sizes refl class (omega (arith, length-class_sizes)))

-- each size is whole words
pub size_of-words : (class : ℕ) → class < 32 → content_of (size_of class) ≡ size_of class
unfolding class_sizes size_of
size_of-words class lt = eqb-true (content_of (size_of class)) (size_of class) (test_at (λ s. eqb (content_of s) s) class_sizes refl class (omega (arith, length-class_sizes)))

-- ---- the class of a size, both ways

pub least_from_class : (size class : ℕ) → class_for size ≡ Some class → IsLeastClass size class
least_from_class size class h = elim (cases_lt 0 size) [
  | inl some ↦ least_from_position size class some (sym h ∙ class_for-value size some)
  | inr none ↦ let nothing = class_for-zero size (omega arith) in absurd cc
]

pub class_from_least : (size class : ℕ) → IsLeastClass size class → class_for size ≡ Some class
unfolding size_of
class_from_least size class h =
    let before : (k : ℕ) → k < class → leb size (get_or class_sizes k 0) ≡ false = λ k lt. lt-leb _ _ (h.least k lt) in
    let is_class = h.is_class in
    let at = position_or_len_is (leb size) class_sizes class 0 (omega (arith, length-class_sizes)) before (λ lt. le-leb _ _ h.holds) in
    let inside : ltb class (length class_sizes) ≡ true = lt-ltb _ _ (omega (arith, length-class_sizes)) in
    class_for-value size h.some ∙ rw (at, inside) refl

pub class_for-large : (size : ℕ) → 4096 < size → class_for size ≡ None
class_for-large size large = none_unless_some (class_for size) (λ class h. omega (arith, (least_from_class size class h).holds, size_of-small class))

pub class_for-small : (size : ℕ) → 0 < size → size ≤ 4096 → is_some (class_for size) ≡ true
class_for-small size some small = some_unless_none (class_for size) (λ h. omega (arith, large_from_none size (sym h ∙ class_for-value size some)))

pub class_for-own : (class : ℕ) → class < 32 → class_for (size_of class) ≡ Some class
class_for-own class lt =
    class_from_least (size_of class) class (record { some = size_of-some class lt; is_class = lt; holds = omega arith; least = λ before below. size_of-rises before class below lt })
