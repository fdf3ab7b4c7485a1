-- Lists that are kept in order by a key: an item put at its place, one left out, and what a list gains and loses.
use Rattle.std.proofs.Common.{◌≡◌, ◌≢◌, ℕ, zero, suc, ◌+◌, ◌-◌, ◌<◌, ◌≤◌, ◌⊎◌, Bool, true, false, not, List, [], ◌∷◌, ◌++◌, Option, None, Some, length, get_or, map, take, drop, eqb, ltb, refl, sym, ap, ◌∙◌, arith, inl, inr}
use Rattle.std.specs.Prelude.{All, AllPairs, Contains, filter, insert, remove}
use Rattle.std.specs.List.Sorted.{IsPermutation}
use Rattle.std.proofs.lemmas.Bool.{cases_lt, cases_eq, cases_order, lt-ltb, le-ltb, eq-eqb, ne_eqb, not_from_true, not_from_false}
use Rattle.std.proofs.lemmas.List.{get_or_default, get_or-map, length-map}
use Rattle.std.proofs.lemmas.List.Elements.{All-append, All-cons, All-drop, All-filter, All-take}
use Rattle.std.proofs.lemmas.List.Kept.{AllPairs-cons, AllPairs-filter}
use Rattle.std.proofs.lemmas.List.Sorted.{IsPermutation-refl, IsPermutation-cons, IsPermutation-sym, IsPermutation-trans, IsPermutation-middle}
use Rattle.umem_base.specs.Ordered.{put_by, left_out_by, SplitsBy, IsOrderedBy, Gains, Loses, split_behind, split_newest}
use Rattle.umem_base.proofs.Lists.{AllPairs-insert, Contains-here, Contains-there}

-- ---- what stands in a list

pub Contains-nil : {X P : Type 0} (y : X) → Contains [] y → P
Contains-nil y h = absurd (omega (arith, h.1))

pub Contains-cases : {X : Type 0} (x y : X) (xs : List X) → Contains (x ∷ xs) y → (x ≡ y) ⊎ Contains xs y
Contains-cases x y xs (zero, lt, e) = inl e
Contains-cases x y xs (suc k, lt, e) = inr (k, omega (arith, lt), e)

-- ---- filters that keep all, nothing, or all but one

pub filter_all : {X : Type 0} (p : X → Bool) (xs : List X) → All (λ x. p x ≡ true) xs → filter p xs ≡ xs
filter_all p [] h = refl
filter_all {X} p (x ∷ xs) h =
    let here : p x ≡ true = h 0 x (omega arith) in
    rw here (ap (λ (ys : List X). x ∷ ys) (filter_all p xs (λ k d lt. h (suc k) d (omega arith))))

pub filter_none : {X : Type 0} (p : X → Bool) (xs : List X) → All (λ x. p x ≡ false) xs → filter p xs ≡ []
filter_none p [] h = refl
filter_none p (x ∷ xs) h =
    let here : p x ≡ false = h 0 x (omega arith) in
    rw here (filter_none p xs (λ k d lt. h (suc k) d (omega arith)))

pub filter_but_one : {X : Type 0} (p : X → Bool) (xs : List X) (i : ℕ) → i < length xs → ((d : X) → p (get_or xs i d) ≡ false) → ((k : ℕ) (d : X) → k < length xs → k ≢ i → p (get_or xs k d) ≡ true) → filter p xs ≡ remove xs i
filter_but_one p [] i lt out others = absurd (omega arith)
filter_but_one p (x ∷ xs) zero lt out others =
    let here : p x ≡ false = out x in
    rw here (filter_all p xs (λ k d less. others (suc k) d (omega arith) (λ e. omega arith)))
filter_but_one {X} p (x ∷ xs) (suc i) lt out others =
    let here : p x ≡ true = others 0 x (omega arith) (λ e. omega arith) in
    rw here (ap (λ (ys : List X). x ∷ ys) (filter_but_one p xs i (omega arith) out (λ k d less ne. others (suc k) d (omega arith) (λ e. ne (omega arith)))))

-- ---- indices that split

pub SplitsBy-weaker : {X : Type 0} (A A' B B' : X → Type 0) (xs : List X) (i : ℕ) → ((x : X) → A x → A' x) → ((x : X) → B x → B' x) → SplitsBy A B xs i → SplitsBy A' B' xs i
SplitsBy-weaker A A' B B' xs i f g h = record {
  within = h.within;
  before = λ k d lt. f (get_or xs k d) (h.before k d lt);
  behind = λ k d le lt. g (get_or xs k d) (h.behind k d le lt);
}

-- by the two items beside the index, where the bounds go on along the list
pub SplitsBy-from_sides : {X : Type 0} (A B : X → Type 0) (xs : List X) (i : ℕ) → i ≤ length xs → AllPairs (λ x y. A y → A x) xs → AllPairs (λ x y. B x → B y) xs → (0 < i → (d : X) → A (get_or xs (i - 1) d)) → (i < length xs → (d : X) → B (get_or xs i d)) → SplitsBy A B xs i
SplitsBy-from_sides A B xs i within down up below above = record {
  within = within;
  before = λ k d lt. elim (cases_lt k (i - 1)) [
    | inl less ↦ down k (i - 1) d less (omega arith) (below (omega arith) d)
    | inr last ↦ let same : k ≡ i - 1 = omega arith in rw same (below (omega arith) d)
  ];
  behind = λ k d le lt. elim (cases_lt i k) [
    | inl more ↦ up i k d more lt (above (omega arith) d)
    | inr first ↦ let same : k ≡ i = omega arith in rw same (above (omega arith) d)
  ];
}

-- of the items seen through a function
pub SplitsBy-map : {X Y : Type 0} (f : X → Y) (A B : Y → Type 0) (xs : List X) (i : ℕ) → SplitsBy (λ x. A (f x)) (λ x. B (f x)) xs i → SplitsBy A B (map f xs) i
SplitsBy-map f A B [] i h = record {
  within = h.within;
  before = λ k d lt. absurd (omega (arith, h.within));
  behind = λ k d le lt. absurd (omega arith);
}
SplitsBy-map {X} f A B (x ∷ xs) i h =
    let long = length-map (x ∷ xs) f in
    record {
      within = omega (arith, h.within);
      before = λ k d lt.
          let kl : k < length (x ∷ xs) = omega (arith, h.within) in
          rw (get_or-map f (x ∷ xs) k x d kl) (h.before k x lt);
      behind = λ k d le lt.
          let kl : k < length (x ∷ xs) = omega arith in
          rw (get_or-map f (x ∷ xs) k x d kl) (h.behind k x le kl);
    }

SplitsBy-tail : {X : Type 0} (A B : X → Type 0) (x : X) (xs : List X) (i : ℕ) → SplitsBy A B (x ∷ xs) (suc i) → SplitsBy A B xs i
SplitsBy-tail A B x xs i h = record {
  within = omega (arith, h.within);
  before = λ k d lt. h.before (suc k) d (omega arith);
  behind = λ k d le lt. h.behind (suc k) d (omega arith) (omega arith);
}

-- no item is of a kind that both bounds refuse
pub none_where_SplitsBy : {X : Type 0} (A B : X → Type 0) (xs : List X) (i : ℕ) (x : X) → SplitsBy A B xs i → (A x → ⊥) → (B x → ⊥) → Contains xs x → ⊥
none_where_SplitsBy A B xs i x h not_before not_behind held =
    elim (cases_lt held.0 i) [
      | inl low ↦ not_before (rw held.2 at (h.before held.0 x low))
      | inr high ↦ not_behind (rw held.2 at (h.behind held.0 x high held.1))
    ]

-- ---- an item more

pub put_by-front : {X : Type 0} (key : X → ℕ) (x : X) (xs : List X) (y : X) → key y < key x → put_by key (x ∷ xs) y ≡ y ∷ x ∷ xs
put_by-front key x xs y lt = rw (lt-ltb (key y) (key x) lt) refl

pub put_by-behind : {X : Type 0} (key : X → ℕ) (x : X) (xs : List X) (y : X) → key x ≤ key y → put_by key (x ∷ xs) y ≡ x ∷ put_by key xs y
put_by-behind key x xs y le = rw (le-ltb (key y) (key x) le) refl

-- an item that is inserted at an index that splits by its key is put at its place
pub insert-put_by : {X : Type 0} (key : X → ℕ) (xs : List X) (i : ℕ) (y : X) → SplitsBy (λ x. key x ≤ key y) (λ x. key y < key x) xs i → insert xs i y ≡ put_by key xs y
insert-put_by key [] zero y h = refl
insert-put_by key [] (suc i) y h = absurd (omega (arith, h.within))
insert-put_by key (x ∷ xs) zero y h = sym (put_by-front key x xs y (h.behind 0 x (omega arith) (omega arith)))
insert-put_by {X} key (x ∷ xs) (suc i) y h =
    ap (λ (ys : List X). x ∷ ys) (insert-put_by key xs i y (SplitsBy-tail (λ z. key z ≤ key y) (λ z. key y < key z) x xs i h))
    ∙ sym (put_by-behind key x xs y (h.before 0 x (omega arith)))

-- seen through a function that keeps the key
pub map-put_by : {X Y : Type 0} (f : X → Y) (key : Y → ℕ) (xs : List X) (y : X) → map f (put_by (λ x. key (f x)) xs y) ≡ put_by key (map f xs) (f y)
map-put_by f key [] y = refl
map-put_by {X} {Y} f key (x ∷ xs) y =
    elim (cases_lt (key (f y)) (key (f x))) [
      | inl lt ↦ rw (lt-ltb (key (f y)) (key (f x)) lt) refl
      | inr le ↦ rw (le-ltb (key (f y)) (key (f x)) le) (ap (λ (ys : List Y). f x ∷ ys) (map-put_by f key xs y))
    ]

pub length-put_by : {X : Type 0} (key : X → ℕ) (xs : List X) (y : X) → length (put_by key xs y) ≡ length xs + 1
length-put_by key [] y = refl
length-put_by key (x ∷ xs) y =
    elim (cases_lt (key y) (key x)) [
      | inl lt ↦ rw (put_by-front key x xs y lt) (omega arith)
      | inr le ↦ rw (put_by-behind key x xs y le) (omega (arith, length-put_by key xs y))
    ]

pub IsPermutation-put_by : {X : Type 0} (key : X → ℕ) (xs : List X) (y : X) → IsPermutation (y ∷ xs) (put_by key xs y)
IsPermutation-put_by key [] y = IsPermutation-refl (y ∷ [])
IsPermutation-put_by key (x ∷ xs) y =
    elim (cases_lt (key y) (key x)) [
      | inl lt ↦ rw (put_by-front key x xs y lt) (IsPermutation-refl (y ∷ x ∷ xs))
      | inr le ↦
          let swapped = IsPermutation-sym (x ∷ y ∷ xs) (y ∷ x ∷ xs) (IsPermutation-middle (x ∷ []) y xs) in
          let rest = IsPermutation-cons x (y ∷ xs) (put_by key xs y) (IsPermutation-put_by key xs y) in
          rw (put_by-behind key x xs y le) (IsPermutation-trans (y ∷ x ∷ xs) (x ∷ y ∷ xs) (x ∷ put_by key xs y) swapped rest)
    ]

pub All-put_by : {X : Type 0} (P : X → Type 0) (key : X → ℕ) (xs : List X) (y : X) → P y → All P xs → All P (put_by key xs y)
All-put_by P key [] y here all = All-cons P y [] here all
All-put_by P key (x ∷ xs) y here all =
    elim (cases_lt (key y) (key x)) [
      | inl lt ↦ rw (put_by-front key x xs y lt) (All-cons P y (x ∷ xs) here all)
      | inr le ↦
          let rest : All P xs = λ k d kl. all (suc k) d (omega arith) in
          rw (put_by-behind key x xs y le) (All-cons P x (put_by key xs y) (all 0 x (omega arith)) (All-put_by P key xs y here rest))
    ]

-- an item that R relates to those whose key is not above its own, and the others to it
pub AllPairs-put_by : {X : Type 0} (R : X → X → Type 0) (key : X → ℕ) (xs : List X) (y : X) → IsOrderedBy key xs → AllPairs R xs → All (λ x. key x ≤ key y → R x y) xs → All (λ x. key y < key x → R y x) xs → AllPairs R (put_by key xs y)
AllPairs-put_by R key [] y ordered pairs low high = AllPairs-cons R y [] (λ k d lt. absurd (omega arith)) pairs
AllPairs-put_by R key (x ∷ xs) y ordered pairs low high =
    elim (cases_lt (key y) (key x)) [
      | inl lt ↦
          let first : R y x = high 0 x (omega arith) lt in
          let rest : All (R y) xs = λ k d kl. high (suc k) d (omega arith) (omega (arith, ordered 0 (suc k) d (omega arith) (omega arith))) in
          rw (put_by-front key x xs y lt) (AllPairs-cons R y (x ∷ xs) (All-cons (R y) x xs first rest) pairs)
      | inr le ↦
          let behind : All (R x) xs = λ k d kl. pairs 0 (suc k) d (omega arith) (omega arith) in
          let tail : AllPairs R (put_by key xs y) = AllPairs-put_by R key xs y
          (λ i j d less kl. ordered (suc i) (suc j) d (omega arith) (omega arith))
          (λ i j d less kl. pairs (suc i) (suc j) d (omega arith) (omega arith))
          (λ k d kl. low (suc k) d (omega arith))
          (λ k d kl. high (suc k) d (omega arith)) in
          rw (put_by-behind key x xs y le) (AllPairs-cons R x (put_by key xs y) (All-put_by (R x) key xs y (low 0 x (omega arith) le) behind) tail)
    ]

pub IsOrderedBy-put_by : {X : Type 0} (key : X → ℕ) (xs : List X) (y : X) → IsOrderedBy key xs → IsOrderedBy key (put_by key xs y)
IsOrderedBy-put_by key xs y ordered =
    AllPairs-put_by (λ first second. key first ≤ key second) key xs y ordered ordered (λ k d lt le. le) (λ k d lt less. omega arith)

-- the same at an index that splits the list
pub AllPairs-insert_split : {X : Type 0} (R : X → X → Type 0) (A B : X → Type 0) (xs : List X) (i : ℕ) (y : X) → SplitsBy A B xs i → AllPairs R xs → ((x : X) → A x → R x y) → ((x : X) → B x → R y x) → AllPairs R (insert xs i y)
AllPairs-insert_split R A B xs i y h pairs f g =
    AllPairs-insert R xs i y h.within pairs (λ k d lt. f (get_or xs k d) (h.before k d lt)) (λ k d le lt. g (get_or xs k d) (h.behind k d le lt))

pub All-insert : {X : Type 0} (P : X → Type 0) (xs : List X) (i : ℕ) (y : X) → P y → All P xs → All P (insert xs i y)
All-insert P xs i y here all = All-append P (take i xs) (y ∷ drop i xs) (All-take P i xs all) (All-cons P y (drop i xs) here (All-drop P i xs all))

-- what is below the item, the item, and what is above, where no key is the item's
pub put_by-filters : {X : Type 0} (key : X → ℕ) (xs : List X) (y : X) → IsOrderedBy key xs → All (λ x. key x ≢ key y) xs → put_by key xs y ≡ filter (λ x. ltb (key x) (key y)) xs ++ y ∷ filter (λ x. ltb (key y) (key x)) xs
put_by-filters key [] y ordered others = refl
put_by-filters {X} key (x ∷ xs) y ordered others =
    elim (cases_lt (key y) (key x)) [
      | inl lt ↦
          let above : (k : ℕ) (d : X) → k < length xs → key y < key (get_or xs k d) = λ k d kl. omega (arith, ordered 0 (suc k) d (omega arith) (omega arith)) in
          let none : filter (λ (z : X). ltb (key z) (key y)) xs ≡ [] = filter_none (λ z. ltb (key z) (key y)) xs (λ k d kl. le-ltb _ _ (omega (arith, above k d kl))) in
          let all : filter (λ (z : X). ltb (key y) (key z)) xs ≡ xs = filter_all (λ z. ltb (key y) (key z)) xs (λ k d kl. lt-ltb _ _ (above k d kl)) in
          rw (lt-ltb (key y) (key x) lt, le-ltb (key x) (key y) (omega arith), none, all) refl
      | inr le ↦
          let less : key x < key y = omega (arith, others 0 x (omega arith)) in
          rw (le-ltb (key y) (key x) le, lt-ltb (key x) (key y) less)
          (ap (λ (ys : List X). x ∷ ys) (put_by-filters key xs y (λ i j d ij jl. ordered (suc i) (suc j) d (omega arith) (omega arith)) (λ k d kl. others (suc k) d (omega arith))))
    ]

Gains-front : {X : Type 0} (y : X) (xs : List X) → Gains xs (y ∷ xs) y
Gains-front y xs = record {
  gained = Contains-here y xs;
  kept = λ x was. Contains-there y x xs was;
  only = λ x is. elim (Contains-cases y x xs is) [ inl here ↦ inr (sym here) | inr there ↦ inl there ];
}

Gains-cons : {X : Type 0} (x y : X) (xs ys : List X) → Gains xs ys y → Gains (x ∷ xs) (x ∷ ys) y
Gains-cons x y xs ys h = record {
  gained = Contains-there x y ys h.gained;
  kept = λ z was. elim (Contains-cases x z xs was) [
    | inl here ↦ rw here (Contains-here z ys)
    | inr there ↦ Contains-there x z ys (h.kept z there)
  ];
  only = λ z is. elim (Contains-cases x z ys is) [
    | inl here ↦ inl (rw here (Contains-here z xs))
    | inr there ↦ elim (h.only z there) [ inl old ↦ inl (Contains-there x z xs old) | inr same ↦ inr same ]
  ];
}

pub Gains-put_by : {X : Type 0} (key : X → ℕ) (xs : List X) (y : X) → Gains xs (put_by key xs y) y
Gains-put_by key [] y = Gains-front y []
Gains-put_by key (x ∷ xs) y =
    elim (cases_lt (key y) (key x)) [
      | inl lt ↦ rw (put_by-front key x xs y lt) (Gains-front y (x ∷ xs))
      | inr le ↦ rw (put_by-behind key x xs y le) (Gains-cons x y xs (put_by key xs y) (Gains-put_by key xs y))
    ]

-- ---- an item less

pub left_out_by-keeps : {X : Type 0} (key : X → ℕ) (x : X) (xs : List X) (value : ℕ) → key x ≢ value → left_out_by key (x ∷ xs) value ≡ x ∷ left_out_by key xs value
left_out_by-keeps key x xs value ne = rw (ne_eqb (key x) value ne) refl

pub left_out_by-drops : {X : Type 0} (key : X → ℕ) (x : X) (xs : List X) (value : ℕ) → key x ≡ value → left_out_by key (x ∷ xs) value ≡ left_out_by key xs value
left_out_by-drops key x xs value e = rw (eq-eqb (key x) value e) refl

pub left_out_by-none : {X : Type 0} (key : X → ℕ) (xs : List X) (value : ℕ) → All (λ x. key x ≢ value) xs → left_out_by key xs value ≡ xs
left_out_by-none key xs value h = filter_all (λ x. not (eqb (key x) value)) xs (λ k d lt. not_from_false _ (ne_eqb _ _ (h k d lt)))

-- an item that is removed at the one index of its key is left out
pub remove-left_out_by : {X : Type 0} (key : X → ℕ) (xs : List X) (i value : ℕ) → i < length xs → ((d : X) → key (get_or xs i d) ≡ value) → ((k : ℕ) (d : X) → k < length xs → k ≢ i → key (get_or xs k d) ≢ value) → remove xs i ≡ left_out_by key xs value
remove-left_out_by key xs i value lt here others =
    sym (filter_but_one (λ x. not (eqb (key x) value)) xs i lt (λ d. not_from_true _ (eq-eqb _ _ (here d))) (λ k d kl ne. not_from_false _ (ne_eqb _ _ (others k d kl ne))))

-- where keys differ, one index has a key
pub index_of_key : {X : Type 0} (key : X → ℕ) (xs : List X) (i k : ℕ) (d e : X) → AllPairs (λ x y. key x ≢ key y) xs → i < length xs → k < length xs → key (get_or xs k e) ≡ key (get_or xs i d) → k ≡ i
index_of_key key xs i k d e apart il kl same =
    let same' : key (get_or xs k d) ≡ key (get_or xs i d) = rw (get_or_default xs k d e kl) same in
    elim (cases_order k i) [
      | inl one ↦ one
      | inr (inl less) ↦ absurd (apart k i d less il same')
      | inr (inr more) ↦ absurd (apart i k d more kl (sym same'))
    ]

-- the same where the keys of all items differ
pub remove-left_out_by_own : {X : Type 0} (key : X → ℕ) (xs : List X) (i : ℕ) (x : X) → AllPairs (λ x y. key x ≢ key y) xs → i < length xs → x ≡ get_or xs i x → remove xs i ≡ left_out_by key xs (key x)
remove-left_out_by_own {X} key xs i x apart lt is =
    let here : (d : X) → key (get_or xs i d) ≡ key x = λ d. sym (ap key (is ∙ get_or_default xs i x d lt)) in
    remove-left_out_by key xs i (key x) lt here (λ k d kl ne e. ne (index_of_key key xs i k d d apart lt kl (e ∙ sym (here d))))

pub map-left_out_by : {X Y : Type 0} (f : X → Y) (key : Y → ℕ) (xs : List X) (value : ℕ) → map f (left_out_by (λ x. key (f x)) xs value) ≡ left_out_by key (map f xs) value
map-left_out_by f key [] value = refl
map-left_out_by {X} {Y} f key (x ∷ xs) value =
    elim (cases_eq (key (f x)) value) [
      | inl e ↦ rw (eq-eqb (key (f x)) value e) (map-left_out_by f key xs value)
      | inr ne ↦ rw (ne_eqb (key (f x)) value ne) (ap (λ (ys : List Y). f x ∷ ys) (map-left_out_by f key xs value))
    ]

pub All-left_out_by : {X : Type 0} (P : X → Type 0) (key : X → ℕ) (xs : List X) (value : ℕ) → All P xs → All P (left_out_by key xs value)
All-left_out_by P key xs value all = All-filter (λ x. not (eqb (key x) value)) P xs all

pub AllPairs-left_out_by : {X : Type 0} (R : X → X → Type 0) (key : X → ℕ) (xs : List X) (value : ℕ) → AllPairs R xs → AllPairs R (left_out_by key xs value)
AllPairs-left_out_by R key xs value pairs = AllPairs-filter R (λ x. not (eqb (key x) value)) xs pairs

pub All-remove : {X : Type 0} (P : X → Type 0) (xs : List X) (i : ℕ) → All P xs → All P (remove xs i)
All-remove P xs i all = All-append P (take i xs) (drop (suc i) xs) (All-take P i xs all) (All-drop P (suc i) xs all)

pub Contains-left_out_by : {X : Type 0} (key : X → ℕ) (xs : List X) (value : ℕ) (y : X) → Contains xs y → key y ≢ value → Contains (left_out_by key xs value) y
Contains-left_out_by key [] value y h ne = Contains-nil y h
Contains-left_out_by key (x ∷ xs) value y h ne =
    elim (Contains-cases x y xs h) [
      | inl here ↦ rw (left_out_by-keeps key x xs value (rw here ne), here) (Contains-here y (left_out_by key xs value))
      | inr there ↦ elim (cases_eq (key x) value) [
        | inl e ↦ rw (left_out_by-drops key x xs value e) (Contains-left_out_by key xs value y there ne)
        | inr ne' ↦ rw (left_out_by-keeps key x xs value ne') (Contains-there x y (left_out_by key xs value) (Contains-left_out_by key xs value y there ne))
      ]
    ]

pub Contains-from_left_out_by : {X : Type 0} (key : X → ℕ) (xs : List X) (value : ℕ) (y : X) → Contains (left_out_by key xs value) y → Contains xs y × (key y ≢ value)
Contains-from_left_out_by key [] value y h = Contains-nil y h
Contains-from_left_out_by key (x ∷ xs) value y h =
    elim (cases_eq (key x) value) [
      | inl e ↦
          let deep = Contains-from_left_out_by key xs value y (rw (left_out_by-drops key x xs value e) at h) in
          (Contains-there x y xs deep.0, deep.1)
      | inr ne ↦ elim (Contains-cases x y (left_out_by key xs value) (rw (left_out_by-keeps key x xs value ne) at h)) [
        | inl here ↦ (rw here (Contains-here y xs), rw (← here) ne)
        | inr there ↦ let deep = Contains-from_left_out_by key xs value y there in (Contains-there x y xs deep.0, deep.1)
      ]
    ]

pub Loses-left_out_by : {X : Type 0} (key : X → ℕ) (xs : List X) (i : ℕ) (x : X) → AllPairs (λ x y. key x ≢ key y) xs → i < length xs → x ≡ get_or xs i x → Loses key xs (left_out_by key xs (key x)) x
Loses-left_out_by key xs i x apart lt is = record {
  had = (i, lt, sym is);
  gone = λ y h. (Contains-from_left_out_by key xs (key x) y h).1;
  kept = λ y h ne. Contains-left_out_by key xs (key x) y h ne;
  only = λ y h. (Contains-from_left_out_by key xs (key x) y h).0;
  alone = λ y h same.
      let one : h.0 ≡ i = index_of_key key xs i h.0 x y apart lt h.1 (ap key h.2 ∙ same ∙ ap key is) in
      sym h.2 ∙ rw (one, get_or_default xs i y x lt) (sym is);
}

-- ---- the newest item

pub split_newest-push : {X : Type 0} (xs : List X) (x : X) → split_newest (xs ++ x ∷ []) ≡ Some (xs, x)
split_newest-push [] x = refl
split_newest-push (first ∷ xs) x = rw (split_newest-push xs x) refl

not_split_behind : {X : Type 0} (first : X) (rest : Option (List X × X)) → split_behind first rest ≡ None → ⊥
not_split_behind first None e = cc
not_split_behind first (Some rest) e = cc

pub nil_from_split_newest : {X : Type 0} (xs : List X) → split_newest xs ≡ None → xs ≡ []
nil_from_split_newest [] e = refl
nil_from_split_newest (first ∷ xs) e = absurd (not_split_behind first (split_newest xs) e)

split_behind-joins : {X : Type 0} (first : X) (xs ys : List X) (x : X) (rest : Option (List X × X)) → ((zs : List X) (z : X) → rest ≡ Some (zs, z) → xs ≡ zs ++ z ∷ []) → (rest ≡ None → xs ≡ []) → split_behind first rest ≡ Some (ys, x) → first ∷ xs ≡ ys ++ x ∷ []
split_behind-joins {X} first xs ys x None some none e =
    let alone : List X × X = ([], first) in
    let is : List X × X = (ys, x) in
    let same : alone ≡ is = cc in
    rw (none refl) (ap (λ (p : List X × X). p.0 ++ p.1 ∷ []) same)
split_behind-joins {X} first xs ys x (Some rest) some none e =
    let more : List X × X = (first ∷ rest.0, rest.1) in
    let is : List X × X = (ys, x) in
    let same : more ≡ is = cc in
    rw (some rest.0 rest.1 refl) (ap (λ (p : List X × X). p.0 ++ p.1 ∷ []) same)

pub append_from_split_newest : {X : Type 0} (xs ys : List X) (x : X) → split_newest xs ≡ Some (ys, x) → xs ≡ ys ++ x ∷ []
append_from_split_newest [] ys x e = absurd (cc e)
append_from_split_newest (first ∷ xs) ys x e =
    split_behind-joins first xs ys x (split_newest xs) (λ zs z h. append_from_split_newest xs zs z h) (λ h. nil_from_split_newest xs h) e
