-- Lists in another order, numbers that stand once, and what holds of a value that may be there.
use Rattle.std.proofs.Common.{◌≡◌, ◌≢◌, ℕ, zero, suc, ◌+◌, ◌<◌, Bool, true, false, not, List, [], ◌∷◌, ◌++◌, Option, Some, None, length, length-append, get_or, map, set, take, drop, append_assoc, eqb, refl, sym, ap, ◌∙◌, arith, inl, inr}
use Rattle.std.specs.Prelude.{All, AllPairs, Any, Contains, IfSome, filter, remove}
use Rattle.std.specs.List.{flat_map}
use Rattle.std.specs.List.Sorted.{IsPermutation}
use Rattle.std.specs.Option.{option_map, option_or}
use Rattle.std.proofs.lemmas.Bool.{cases_Bool, cases_order, ne_eqb}
use Rattle.std.proofs.lemmas.Bool.Decides.{Decides-eqb}
use Rattle.std.proofs.lemmas.List.{append-nil, get_or-append-add, get_or_append_left, get_or_default}
use Rattle.std.proofs.Math.Seq.{get_or-append_seam}
use Rattle.std.proofs.lemmas.List.Elements.{All-map, All-push, Contains-append_cases}
use Rattle.std.proofs.lemmas.List.Kept.{AllPairs-cons}
use Rattle.std.proofs.lemmas.List.Sorted.{IsPermutation-append_comm, IsPermutation-append_left, IsPermutation-append_right, IsPermutation-refl, IsPermutation-sym, IsPermutation-trans}
use Rattle.std.proofs.lemmas.Map.Keys.{IsDistinct-IsPermutation}
use Rattle.std.proofs.lemmas.Map.Made.{AllPairs-from_IsDistinct, IsDistinct-from_AllPairs}
use Rattle.umem_base.proofs.Lists.{Contains-here, Contains-there}
use Rattle.shelf.specs.Steps.{InHand, in_whole}

-- ---- a value that may be there

pub IfSome-or : {X : Type 0} (P : X → Type 0) (one other : Option X) → IfSome one P → (one ≡ None → IfSome other P) → IfSome (option_or one other) P
IfSome-or P (Some x) other first second = first
IfSome-or P None other first second = second refl

pub none_of_both : {X : Type 0} (one other : Option X) → option_or one other ≡ None → (one ≡ None) × (other ≡ None)
none_of_both None other e = (refl, e)
none_of_both (Some x) other e = absurd (cc e)

pub IfSome-in_whole : {A B : Type 0} (P : InHand B → Type 0) (whole : A → B) (taken : Option (InHand A)) → IfSome taken (λ hand. P (record { chunk = hand.chunk; left = whole hand.left })) → IfSome (in_whole whole taken) P
IfSome-in_whole P whole None h = tt
IfSome-in_whole P whole (Some hand) h = h

pub none_in_whole : {A B : Type 0} (whole : A → B) (taken : Option (InHand A)) → in_whole whole taken ≡ None → taken ≡ None
none_in_whole whole None e = refl
none_in_whole whole (Some hand) e = absurd (cc e)

pub IfSome-mapped : {A B : Type 0} (P : B → Type 0) (f : A → B) (o : Option A) → IfSome o (λ x. P (f x)) → IfSome (option_map f o) P
IfSome-mapped P f None h = tt
IfSome-mapped P f (Some x) h = h

pub none_mapped : {A B : Type 0} (f : A → B) (o : Option A) → option_map f o ≡ None → o ≡ None
none_mapped f None e = refl
none_mapped f (Some x) e = absurd (cc e)

-- ---- items that f makes

pub AllPairs-map : {A B : Type 0} (R : B → B → Type 0) (f : A → B) (xs : List A) → AllPairs (λ x y. R (f x) (f y)) xs → AllPairs R (map f xs)
AllPairs-map R f [] h = λ i j d less lt. absurd (omega arith)
AllPairs-map R f (x ∷ xs) h =
    AllPairs-cons R (f x) (map f xs)
    (All-map (R (f x)) f xs (λ k d lt. h 0 (suc k) d (omega arith) (omega arith)))
    (AllPairs-map R f xs (λ i j d less lt. h (suc i) (suc j) d (omega arith) (omega arith)))

pub nil_of_append : {X : Type 0} (xs ys : List X) → xs ++ ys ≡ [] → (xs ≡ []) × (ys ≡ [])
nil_of_append [] ys e = (refl, e)
nil_of_append (x ∷ xs) ys e = absurd (cc e)

pub AllPairs-push : {X : Type 0} (R : X → X → Type 0) (xs : List X) (y : X) → AllPairs R xs → All (λ x. R x y) xs → AllPairs R (xs ++ y ∷ [])
AllPairs-push R [] y h last = λ i j d less lt. absurd (omega arith)
AllPairs-push R (x ∷ xs) y h last =
    AllPairs-cons R x (xs ++ y ∷ [])
    (All-push (R x) xs y (λ k d lt. h 0 (suc k) d (omega arith) (omega arith)) (last 0 x (omega arith)))
    (AllPairs-push R xs y (λ i j d less lt. h (suc i) (suc j) d (omega arith) (omega arith)) (λ k d lt. last (suc k) d (omega arith)))

pub All-front : {X : Type 0} (P : X → Type 0) (xs ys : List X) → All P (xs ++ ys) → All P xs
All-front P xs ys all k d lt = rw (← get_or_append_left xs ys d k lt) (all k d (omega (arith, length-append xs ys)))

pub Any-left : {X : Type 0} (P : X → Type 0) (xs ys : List X) → Any P xs → Any P (xs ++ ys)
Any-left P xs ys at =
    (at.0, at.1, omega (arith, at.2, length-append xs ys), get_or_append_left xs ys at.1 at.0 at.2 ∙ at.3, at.4)

pub Any-last : {X : Type 0} (P : X → Type 0) (xs : List X) (y : X) → P y → Any P (xs ++ y ∷ [])
Any-last P xs y h = (length xs, y, omega (arith, length-append xs (y ∷ [])), get_or-append_seam xs y [] y, h)

-- an item that passes is among those that do
pub Any-filter : {X : Type 0} (P : X → Type 0) (p : X → Bool) (xs : List X) (i : ℕ) (x : X) → i < length xs → get_or xs i x ≡ x → P x → p x ≡ true → Any P (filter p xs)
Any-filter P p [] i x lt is h passes = absurd (omega arith)
Any-filter P p (y ∷ ys) zero x lt is h passes =
    let here : p y ≡ true = rw is passes in
    rw here (0, y, omega arith, refl, rw is h)
Any-filter P p (y ∷ ys) (suc i) x lt is h passes =
    let rest = Any-filter P p ys i x (omega arith) is h passes in
    elim (cases_Bool (p y)) [
      | inl kept ↦ rw kept (suc rest.0, rest.1, omega (arith, rest.2), rest.3, rest.4)
      | inr gone ↦ rw gone rest
    ]

-- the first items are changed by f, the others are not yet
pub set_mapped : {X : Type 0} (f : X → X) (xs : List X) (i k : ℕ) (x : X) → k ≡ suc i → i < length xs → x ≡ get_or xs i x → set (map f (take i xs) ++ drop i xs) i (f x) ≡ map f (take k xs) ++ drop k xs
set_mapped f [] i k x next lt is = absurd (omega arith)
set_mapped f (y ∷ ys) zero k x next lt is = rw (next, is) refl
set_mapped {X} f (y ∷ ys) (suc i) k x next lt is =
    rw next (ap (λ (l : List X). f y ∷ l) (set_mapped f ys i (suc i) x refl (omega arith) is))

pub get_mapped : {X : Type 0} (f : X → X) (xs : List X) (i : ℕ) (d : X) → get_or (map f (take i xs) ++ drop i xs) i d ≡ get_or xs i d
get_mapped f [] zero d = refl
get_mapped f [] (suc i) d = refl
get_mapped f (y ∷ ys) zero d = refl
get_mapped f (y ∷ ys) (suc i) d = get_mapped f ys i d

pub flat_map_take : {X A : Type 0} (f : X → List A) (xs : List X) (i k : ℕ) (x : X) → k ≡ suc i → i < length xs → x ≡ get_or xs i x → flat_map f (take k xs) ≡ flat_map f (take i xs) ++ f x
flat_map_take f [] i k x next lt is = absurd (omega arith)
flat_map_take f (y ∷ ys) zero k x next lt is = rw (next, is) (append-nil (f y))
flat_map_take {X} {A} f (y ∷ ys) (suc i) k x next lt is =
    rw (next, append_assoc) (ap (λ (l : List A). f y ++ l) (flat_map_take f ys i (suc i) x refl (omega arith) is))

-- ---- another order

pub exchange : {X : Type 0} (xs ys zs : List X) → IsPermutation (xs ++ (ys ++ zs)) (ys ++ (xs ++ zs))
exchange xs ys zs =
    let swapped = IsPermutation-append_left zs (xs ++ ys) (ys ++ xs) (IsPermutation-append_comm xs ys) in
    rw (append_assoc xs ys zs, append_assoc ys xs zs) at swapped

-- the items of a part stand before those of the others
pub flat_map-set : {X A : Type 0} (f : X → List A) (xs : List X) (i : ℕ) (y : X) → i < length xs → IsPermutation (flat_map f (set xs i y)) (f y ++ flat_map f (remove xs i))
flat_map-set f [] i y lt = absurd (omega arith)
flat_map-set f (x ∷ xs) zero y lt = IsPermutation-refl (f y ++ flat_map f xs)
flat_map-set f (x ∷ xs) (suc i) y lt =
    IsPermutation-trans _ _ _
    (IsPermutation-append_right (f x) _ _ (flat_map-set f xs i y (omega arith)))
    (exchange (f x) (f y) (flat_map f (remove xs i)))

-- the items of those that pass a test stand before those of the others
pub flat_map-filters : {X A : Type 0} (f : X → List A) (p : X → Bool) (xs : List X) → IsPermutation (flat_map f xs) (flat_map f (filter p xs) ++ flat_map f (filter (λ x. not (p x)) xs))
flat_map-filters f p [] = IsPermutation-refl []
flat_map-filters f p (x ∷ xs) =
    let rest = flat_map-filters f p xs in
    elim (cases_Bool (p x)) [
      | inl passes ↦ rw (passes, append_assoc) (IsPermutation-append_right (f x) _ _ rest)
      | inr fails ↦
          rw fails
          (IsPermutation-trans _ _ _
          (IsPermutation-append_right (f x) _ _ rest)
          (exchange (f x) (flat_map f (filter p xs)) (flat_map f (filter (λ y. not (p y)) xs))))
    ]

-- ---- numbers that stand once

abbrev pub AreDistinct : List ℕ → Type 0
AreDistinct xs = AllPairs (λ x y. x ≢ y) xs

eqb_flips : (x y : ℕ) → eqb x y ≡ eqb y x
eqb_flips x y = elim (cases_order x y) [
  | inl same ↦ rw same refl
  | inr (inl less) ↦ ne_eqb x y (λ e. omega arith) ∙ sym (ne_eqb y x (λ e. omega arith))
  | inr (inr more) ↦ ne_eqb x y (λ e. omega arith) ∙ sym (ne_eqb y x (λ e. omega arith))
]

pub AreDistinct-permutation : (xs ys : List ℕ) → IsPermutation xs ys → AreDistinct xs → AreDistinct ys
AreDistinct-permutation xs ys moved distinct =
    AllPairs-from_IsDistinct Decides-eqb ys (IsDistinct-IsPermutation eqb eqb_flips xs ys moved (IsDistinct-from_AllPairs Decides-eqb xs distinct))

pub AreDistinct-tail : (x : ℕ) (xs : List ℕ) → AreDistinct (x ∷ xs) → AreDistinct xs
AreDistinct-tail x xs h i j d less lt = h (suc i) (suc j) d (omega arith) (omega arith)

pub AreDistinct-cons : (x : ℕ) (xs : List ℕ) → (Contains xs x → ⊥) → AreDistinct xs → AreDistinct (x ∷ xs)
AreDistinct-cons x xs absent h =
    AllPairs-cons (λ x y. x ≢ y) x xs (λ k d lt e. absent (k, lt, get_or_default xs k x d lt ∙ sym e)) h

pub AreDistinct-behind : (xs ys : List ℕ) → AreDistinct (xs ++ ys) → AreDistinct ys
AreDistinct-behind [] ys h = h
AreDistinct-behind (x ∷ xs) ys h = AreDistinct-behind xs ys (AreDistinct-tail x (xs ++ ys) h)

pub AreDistinct-front : (xs ys : List ℕ) → AreDistinct (xs ++ ys) → AreDistinct xs
AreDistinct-front xs ys h = AreDistinct-behind ys xs (AreDistinct-permutation (xs ++ ys) (ys ++ xs) (IsPermutation-append_comm xs ys) h)

pub not_in_rest : (x : ℕ) (xs : List ℕ) → AreDistinct (x ∷ xs) → Contains xs x → ⊥
not_in_rest x xs h held = h 0 (suc held.0) x (omega arith) (omega (arith, held.1)) (sym held.2)

pub AreDistinct-append : (xs ys : List ℕ) → AreDistinct xs → AreDistinct ys → ((x : ℕ) → Contains xs x → Contains ys x → ⊥) → AreDistinct (xs ++ ys)
AreDistinct-append [] ys h g apart = g
AreDistinct-append (x ∷ xs) ys h g apart =
    AreDistinct-cons x (xs ++ ys)
    (λ held. elim (Contains-append_cases xs ys x held) [
      | inl here ↦ not_in_rest x xs h here
      | inr there ↦ apart x (Contains-here x xs) there
    ])
    (AreDistinct-append xs ys (AreDistinct-tail x xs h) g (λ y one other. apart y (Contains-there x y xs one) other))

-- what stands in the one list stands not in the other
pub apart_in_distinct : (xs ys : List ℕ) (y : ℕ) → AreDistinct (xs ++ ys) → Contains xs y → Contains ys y → ⊥
apart_in_distinct [] ys y h there here = omega (arith, there.1)
apart_in_distinct (x ∷ xs) ys y h (zero, lt, is) here =
    h 0 (suc (length xs + here.0)) x (omega arith) (omega (arith, here.1, length-append xs ys)) (is ∙ sym (get_or-append-add xs ys here.0 x ∙ get_or_default ys here.0 x y here.1 ∙ here.2))
apart_in_distinct (x ∷ xs) ys y h (suc k, lt, is) here =
    apart_in_distinct xs ys y (AreDistinct-tail x (xs ++ ys) h) (k, omega arith, is) here
