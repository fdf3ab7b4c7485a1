-- Lists whose items stand in a relation to each later one: joined, seen through a function, and by two of its items.
use Rattle.std.proofs.Common.{◌≡◌, suc, ◌⊎◌, Bool, true, false, List, [], ◌∷◌, ◌++◌, cond, map, refl, sym, ap, subst, arith, inl, inr, ◌∙◌}
use Rattle.std.specs.Prelude.{All, AllPairs, Contains, filter}
use Rattle.std.specs.List.{list_any}
use Rattle.std.proofs.lemmas.Bool.{cond_both, or_parts, false≢true}
use Rattle.std.proofs.lemmas.List.Elements.{All-append, All-cons, All-contains, All-filter, All-head, All-map, All-nil, All-tail, filter_passes}
use Rattle.std.proofs.lemmas.List.Kept.{AllPairs-cons, AllPairs-filter}
use Rattle.umem_base.proofs.Lists.{Contains-here, Contains-there}
use Rattle.umem_base.proofs.OrderedLemmas.{Contains-cases, Contains-nil}

-- ---- pairs

AllPairs-head : {X : Type 0} (R : X → X → Type 0) (x : X) (xs : List X) → AllPairs R (x ∷ xs) → All (R x) xs
AllPairs-head R x xs h k d lt = h 0 (suc k) d (omega arith) (omega arith)

AllPairs-tail : {X : Type 0} (R : X → X → Type 0) (x : X) (xs : List X) → AllPairs R (x ∷ xs) → AllPairs R xs
AllPairs-tail R x xs h i j d less lt = h (suc i) (suc j) d (omega arith) (omega arith)

pub AllPairs-append : {X : Type 0} (R : X → X → Type 0) (xs ys : List X) → AllPairs R xs → AllPairs R ys → All (λ x. All (R x) ys) xs → AllPairs R (xs ++ ys)
AllPairs-append R [] ys first second across = second
AllPairs-append R (x ∷ xs) ys first second across =
    let rest = AllPairs-append R xs ys (AllPairs-tail R x xs first) second (All-tail (λ y. All (R y) ys) x xs across) in
    AllPairs-cons R x (xs ++ ys) (All-append (R x) xs ys (AllPairs-head R x xs first) (All-head (λ y. All (R y) ys) x xs across)) rest

pub AllPairs-map : {X Y : Type 0} (R : Y → Y → Type 0) (f : X → Y) (xs : List X) → AllPairs (λ a b. R (f a) (f b)) xs → AllPairs R (map f xs)
AllPairs-map R f [] h = λ i j d less lt. absurd (omega arith)
AllPairs-map {X} {Y} R f (x ∷ xs) h =
    let S : X → X → Type 0 = λ a b. R (f a) (f b) in
    AllPairs-cons R (f x) (map f xs) (All-map (R (f x)) f xs (AllPairs-head S x xs h)) (AllPairs-map R f xs (AllPairs-tail S x xs h))

-- two items of the list are one, or stand in the relation one way or the other
pub pair_of : {X : Type 0} (R : X → X → Type 0) (xs : List X) (x y : X) → AllPairs R xs → Contains xs x → Contains xs y → (x ≡ y) ⊎ (R x y ⊎ R y x)
pair_of R [] x y h a b = Contains-nil x a
pair_of R (z ∷ xs) x y h a b = elim (Contains-cases z x xs a) [
  | inl is_x ↦ elim (Contains-cases z y xs b) [
    | inl is_y ↦ inl (sym is_x ∙ is_y)
    | inr later ↦ inr (inl (subst (λ w. R w y) is_x (All-contains (R z) xs y (AllPairs-head R z xs h) later)))
  ]
  | inr there ↦ elim (Contains-cases z y xs b) [
    | inl is_y ↦ inr (inr (subst (λ w. R w x) is_y (All-contains (R z) xs x (AllPairs-head R z xs h) there)))
    | inr later ↦ pair_of R xs x y (AllPairs-tail R z xs h) there later
  ]
]

-- ---- what holds of the items that pass a test

pub All-passing : {X : Type 0} (P : X → Type 0) (p : X → Bool) (xs : List X) → All (λ x. p x ≡ true → P x) xs → All P (filter p xs)
All-passing {X} P p xs h k d lt = All-filter p (λ (x : X). p x ≡ true → P x) xs h k d lt (filter_passes p xs k d lt)

pub AllPairs-passing : {X : Type 0} (R : X → X → Type 0) (p : X → Bool) (xs : List X) → AllPairs (λ a b. p a ≡ true → p b ≡ true → R a b) xs → AllPairs R (filter p xs)
AllPairs-passing {X} R p xs h i j d less lt =
    AllPairs-filter (λ (a b : X). p a ≡ true → p b ≡ true → R a b) p xs h i j d less lt (filter_passes p xs i d (omega arith)) (filter_passes p xs j d lt)

with_first : {X : Type 0} (P : X → Type 0) (x : X) (xs rest : List X) (Q : X → Type 0) (test : Bool) → All P (cond test (x ∷ rest) rest) → (All P rest → All Q xs) → (test ≡ true → P x → Q x) → (test ≡ false → Q x) → All Q (x ∷ xs)
with_first P x xs rest Q true h tail here skip = All-cons Q x xs (here refl (All-head P x rest h)) (tail (All-tail P x rest h))
with_first P x xs rest Q false h tail here skip = All-cons Q x xs (skip refl) (tail h)

-- what holds of the items that pass, holds of each item if it passes
pub All-from_passing : {X : Type 0} (P : X → Type 0) (p : X → Bool) (xs : List X) → All P (filter p xs) → All (λ x. p x ≡ true → P x) xs
All-from_passing {X} P p [] h = All-nil (λ (x : X). p x ≡ true → P x)
All-from_passing {X} P p (x ∷ xs) h =
    with_first P x xs (filter p xs) (λ (y : X). p y ≡ true → P y) (p x) h (All-from_passing P p xs) (λ e here again. here) (λ e passes. absurd (false≢true (sym e ∙ passes)))

-- no item passes a test, seen through a function
pub none_passes-map : {X Y : Type 0} (p : Y → Bool) (f : X → Y) (xs : List X) → list_any p (map f xs) ≡ false → All (λ x. p (f x) ≡ false) xs
none_passes-map {X} p f [] h = All-nil (λ (x : X). p (f x) ≡ false)
none_passes-map {X} p f (x ∷ xs) h =
    let parts = or_parts (p (f x)) (list_any p (map f xs)) h in
    All-cons (λ (y : X). p (f y) ≡ false) x xs parts.0 (none_passes-map p f xs parts.1)

-- ---- what stands in a list that is made of others

pub Contains-behind : {X : Type 0} (xs ys : List X) (y : X) → Contains ys y → Contains (xs ++ ys) y
Contains-behind [] ys y h = h
Contains-behind (x ∷ xs) ys y h = Contains-there x y (xs ++ ys) (Contains-behind xs ys y h)

pub Contains-seen : {X Y : Type 0} (f : X → Y) (xs : List X) (y : X) → Contains xs y → Contains (map f xs) (f y)
Contains-seen f [] y h = Contains-nil y h
Contains-seen {X} f (x ∷ xs) y h = elim (Contains-cases x y xs h) [
  | inl is ↦ subst (λ (z : X). Contains (map f (x ∷ xs)) (f z)) is (Contains-here (f x) (map f xs))
  | inr later ↦ Contains-there (f x) (f y) (map f xs) (Contains-seen f xs y later)
]

pub Contains-passing : {X : Type 0} (p : X → Bool) (xs : List X) (y : X) → p y ≡ true → Contains xs y → Contains (filter p xs) y
Contains-passing p [] y passes h = Contains-nil y h
Contains-passing {X} p (x ∷ xs) y passes h = elim (Contains-cases x y xs h) [
  | inl is ↦
      cond_both (p x) (x ∷ filter p xs) (filter p xs) (λ (zs : List X). Contains zs y) (λ _. subst (λ (z : X). Contains (x ∷ filter p xs) z) is (Contains-here x (filter p xs)))
      (λ no. absurd (false≢true (sym no ∙ ap p is ∙ passes)))
  | inr later ↦
      let rest = Contains-passing p xs y passes later in
      cond_both (p x) (x ∷ filter p xs) (filter p xs) (λ (zs : List X). Contains zs y) (λ _. Contains-there x y (filter p xs) rest) (λ _. rest)
]
