-- Lists that are seen through functions or looked through, and counts over ranges.
use Rattle.std.proofs.Common.{◌≡◌, ◌≢◌, ℕ, zero, suc, ◌+◌, ◌<◌, ◌≤◌, inl, inr, Bool, true, false, cond, List, [], ◌∷◌, length, get_or, set, map, Some, None, refl, sym, ap, ◌∙◌, subst, arith}
use Rattle.std.specs.Prelude.{Contains, count_by, filter, find}
use Rattle.std.specs.List.{list_any, range_with_len}
use Rattle.std.proofs.lemmas.Bool.{cases_Bool, cases_eq, false≢true}
use Rattle.std.proofs.lemmas.List.Sums.{sum_by-cons}
use Rattle.umem_base.proofs.Lists.{Contains-here, Contains-there}
use Rattle.umem_base.proofs.OrderedLemmas.{Contains-cases, Contains-nil}
use Rattle.plain_heap.proofs.PairsLemmas.{Contains-seen}

-- ---- what is seen through a function

-- what is seen comes from an item
pub seen_from : {X Y : Type 0} (f : X → Y) (xs : List X) (y : Y) → Contains (map f xs) y → (x : X) × Contains xs x × (f x ≡ y)
seen_from f [] y h = Contains-nil y h
seen_from f (x ∷ xs) y h = elim (Contains-cases (f x) y (map f xs) h) [
  | inl is ↦ (x, Contains-here x xs, is)
  | inr there ↦ let found = seen_from f xs y there in (found.0, Contains-there x found.0 xs found.1, found.2)
]

-- functions that agree on the items
pub map_alike : {X Y : Type 0} (f g : X → Y) (xs : List X) → ((x : X) → Contains xs x → f x ≡ g x) → map f xs ≡ map g xs
map_alike f g [] same = refl
map_alike {X} {Y} f g (x ∷ xs) same =
    let here : f x ≡ g x = same x (Contains-here x xs) in
    rw here (ap (λ (ys : List Y). g x ∷ ys) (map_alike f g xs (λ y there. same y (Contains-there x y xs there))))

-- lists of the same items are seen alike
pub seen_alike : {X Y : Type 0} (f : X → Y) (xs ys : List X) (y : Y) → ((x : X) → Contains xs x → Contains ys x) → Contains (map f xs) y → Contains (map f ys) y
seen_alike f xs ys y more h =
    let found = seen_from f xs y h in
    subst (Contains (map f ys)) found.2 (Contains-seen f ys found.0 (more found.0 found.1))

-- ---- what is looked through

-- what is kept by a test stood there and passes it
pub passing_from : {X : Type 0} (p : X → Bool) (xs : List X) (y : X) → Contains (filter p xs) y → Contains xs y × (p y ≡ true)
passing_from p [] y h = Contains-nil y h
passing_from {X} p (x ∷ xs) y h = go (p x) refl h (λ later. passing_from p xs y later)
  where
    go : (b : Bool) → p x ≡ b → Contains (cond b (x ∷ filter p xs) (filter p xs)) y → (Contains (filter p xs) y → Contains xs y × (p y ≡ true)) → Contains (x ∷ xs) y × (p y ≡ true)
    go true is there rest = elim (Contains-cases x y (filter p xs) there) [
      | inl same ↦ (subst (λ (z : X). Contains (x ∷ xs) z) same (Contains-here x xs), ap p (sym same) ∙ is)
      | inr later ↦ let found = rest later in (Contains-there x y xs found.0, found.1)
    ]
    go false is there rest = let found = rest there in (Contains-there x y xs found.0, found.1)

pub find_none : {X : Type 0} (p : X → Bool) (xs : List X) → ((x : X) → Contains xs x → p x ≡ false) → find p xs ≡ None
find_none p [] none = refl
find_none p (x ∷ xs) none =
    let here : p x ≡ false = none x (Contains-here x xs) in
    rw here (find_none p xs (λ y there. none y (Contains-there x y xs there)))

-- what is found stands there and passes, where something does
pub find_some : {X : Type 0} (p : X → Bool) (xs : List X) (y : X) → Contains xs y → p y ≡ true → (x : X) × (find p xs ≡ Some x) × Contains xs x × (p x ≡ true)
find_some p [] y h passes = Contains-nil y h
find_some {X} p (x ∷ xs) y h passes = elim (cases_Bool (p x)) [
  | inl is ↦ (x, rw is refl, Contains-here x xs, is)
  | inr isnt ↦ elim (Contains-cases x y xs h) [
    | inl same ↦ absurd (false≢true (sym isnt ∙ ap p same ∙ passes))
    | inr later ↦ let found = find_some p xs y later passes in (found.0, rw isnt found.1, Contains-there x found.0 xs found.2, found.3)
  ]
]

-- and so it is with what was found
pub found_passes : {X : Type 0} (p : X → Bool) (xs : List X) (x : X) → find p xs ≡ Some x → Contains xs x × (p x ≡ true)
found_passes p [] x h = absurd (cc h)
found_passes {X} p (first ∷ xs) x h = go (p first) refl h (found_passes p xs x)
  where
    go : (b : Bool) → p first ≡ b → cond b (Some first) (find p xs) ≡ Some x → (find p xs ≡ Some x → Contains xs x × (p x ≡ true)) → Contains (first ∷ xs) x × (p x ≡ true)
    go true is same later = let e : first ≡ x = cc in (subst (λ (y : X). Contains (first ∷ xs) y) e (Contains-here first xs), subst (λ (y : X). p y ≡ true) e is)
    go false is same later = let there = later same in (Contains-there first x xs there.0, there.1)

-- one passes where any does
pub list_any_some : {X : Type 0} (p : X → Bool) (xs : List X) → list_any p xs ≡ true → (x : X) × Contains xs x × (p x ≡ true)
list_any_some p [] told = absurd (false≢true told)
list_any_some p (x ∷ xs) told = elim (cases_Bool (p x)) [
  | inl is ↦ (x, Contains-here x xs, is)
  | inr isnt ↦ let rest = list_any_some p xs (rw isnt at told) in (rest.0, Contains-there x rest.0 xs rest.1, rest.2)
]

-- ---- counts over ranges

-- how many numbers pass, of so many from one on
abbrev pub tally : (ℕ → Bool) → ℕ → ℕ → ℕ
tally p from count = count_by p (range_with_len from count)

tally-yes : (p : ℕ → Bool) (from count : ℕ) → p from ≡ true → tally p from (suc count) ≡ 1 + tally p (from + 1) count
tally-yes p from count is = sum_by-cons (λ (x : ℕ). cond (p x) 1 0) from (range_with_len (from + 1) count) ∙ ap (λ (b : Bool). cond b 1 0 + tally p (from + 1) count) is

tally-no : (p : ℕ → Bool) (from count : ℕ) → p from ≡ false → tally p from (suc count) ≡ tally p (from + 1) count
tally-no p from count is =
    let e : tally p from (suc count) ≡ 0 + tally p (from + 1) count = sum_by-cons (λ (x : ℕ). cond (p x) 1 0) from (range_with_len (from + 1) count) ∙ ap (λ (b : Bool). cond b 1 0 + tally p (from + 1) count) is in
    omega (arith, e)

pub tally-alike : (p q : ℕ → Bool) (from count : ℕ) → ((i : ℕ) → from ≤ i → i < from + count → p i ≡ q i) → tally p from count ≡ tally q from count
tally-alike p q from zero same = refl
tally-alike p q from (suc count) same =
    let rest = tally-alike p q (from + 1) count (λ i low high. same i (omega arith) (omega arith)) in
    let here = same from (omega arith) (omega arith) in
    elim (cases_Bool (p from)) [
      | inl is ↦ tally-yes p from count is ∙ ap (λ n. 1 + n) rest ∙ sym (tally-yes q from count (sym here ∙ is))
      | inr is ↦ tally-no p from count is ∙ rest ∙ sym (tally-no q from count (sym here ∙ is))
    ]

-- one number passes that did not before
pub tally-more : (p q : ℕ → Bool) (from count at : ℕ) → from ≤ at → at < from + count → p at ≡ false → q at ≡ true → ((i : ℕ) → i ≢ at → p i ≡ q i) → tally q from count ≡ tally p from count + 1
tally-more p q from zero at low high off on same = absurd (omega arith)
tally-more p q from (suc count) at low high off on same = elim (cases_eq at from) [
  | inl e ↦
      let rest = tally-alike p q (from + 1) count (λ i above within. same i (λ is. omega arith)) in
      omega (arith, tally-yes q from count (subst (λ (n : ℕ). q n ≡ true) e on), tally-no p from count (subst (λ (n : ℕ). p n ≡ false) e off), rest)
  | inr ne ↦
      let rest = tally-more p q (from + 1) count at (omega (arith, ne)) (omega arith) off on same in
      let here = same from (λ is. ne (sym is)) in
      elim (cases_Bool (p from)) [
        | inl is ↦ omega (arith, tally-yes p from count is, tally-yes q from count (sym here ∙ is), rest)
        | inr is ↦ omega (arith, tally-no p from count is, tally-no q from count (sym here ∙ is), rest)
      ]
]

pub tally-le : (p : ℕ → Bool) (from count : ℕ) → tally p from count ≤ count
tally-le p from zero = omega arith
tally-le p from (suc count) =
    let rest = tally-le p (from + 1) count in
    elim (cases_Bool (p from)) [
      | inl is ↦ omega (arith, tally-yes p from count is, rest)
      | inr is ↦ omega (arith, tally-no p from count is, rest)
    ]

pub tally-none : (p : ℕ → Bool) (from count : ℕ) → ((i : ℕ) → from ≤ i → i < from + count → p i ≡ false) → tally p from count ≡ 0
tally-none p from zero none = refl
tally-none p from (suc count) none = tally-no p from count (none from (omega arith) (omega arith)) ∙ tally-none p (from + 1) count (λ i low high. none i (omega arith) (omega arith))

-- where fewer pass than there are, one does not
pub tally-less : (p : ℕ → Bool) (from count : ℕ) → tally p from count < count → (i : ℕ) × (from ≤ i) × (i < from + count) × (p i ≡ false)
tally-less p from zero less = absurd (omega arith)
tally-less p from (suc count) less = elim (cases_Bool (p from)) [
  | inl is ↦
      let rest = tally-less p (from + 1) count (omega (arith, tally-yes p from count is)) in
      (rest.0, omega (arith, rest.1), omega (arith, rest.2), rest.3)
  | inr is ↦ (from, omega arith, omega arith, is)
]

-- where one does not pass, fewer do than there are
pub tally-fewer : (p : ℕ → Bool) (from count at : ℕ) → from ≤ at → at < from + count → p at ≡ false → tally p from count < count
tally-fewer p from zero at low high off = absurd (omega arith)
tally-fewer p from (suc count) at low high off = elim (cases_eq at from) [
  | inl e ↦ omega (arith, tally-no p from count (subst (λ (n : ℕ). p n ≡ false) e off), tally-le p (from + 1) count)
  | inr ne ↦
      let rest = tally-fewer p (from + 1) count at (omega (arith, ne)) (omega arith) off in
      elim (cases_Bool (p from)) [
        | inl is ↦ omega (arith, tally-yes p from count is, rest)
        | inr is ↦ omega (arith, tally-no p from count is, rest)
      ]
]

-- where some pass, one does
pub tally-some : (p : ℕ → Bool) (from count : ℕ) → 0 < tally p from count → (i : ℕ) × (from ≤ i) × (i < from + count) × (p i ≡ true)
tally-some p from zero some = absurd (omega arith)
tally-some p from (suc count) some = elim (cases_Bool (p from)) [
  | inl is ↦ (from, omega arith, omega arith, is)
  | inr is ↦
      let rest = tally-some p (from + 1) count (omega (arith, tally-no p from count is)) in
      (rest.0, omega (arith, rest.1), omega (arith, rest.2), rest.3)
]

-- where one passes, some do
pub tally-one : (p : ℕ → Bool) (from count at : ℕ) → from ≤ at → at < from + count → p at ≡ true → 0 < tally p from count
tally-one p from zero at low high on = absurd (omega arith)
tally-one p from (suc count) at low high on = elim (cases_eq at from) [
  | inl e ↦ omega (arith, tally-yes p from count (subst (λ (n : ℕ). p n ≡ true) e on))
  | inr ne ↦
      let rest = tally-one p (from + 1) count at (omega (arith, ne)) (omega arith) on in
      elim (cases_Bool (p from)) [
        | inl is ↦ omega (arith, tally-yes p from count is)
        | inr is ↦ omega (arith, tally-no p from count is, rest)
      ]
]
