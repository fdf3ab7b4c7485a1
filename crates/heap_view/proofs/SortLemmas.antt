-- A list of buffers has one order by address, where no two have the same one.
use Rattle.std.proofs.Common.{◌≡◌, ◌≢◌, ℕ, suc, ◌<◌, ◌≤◌, List, [], ◌∷◌, ◌++◌, length, get_or, set, refl, sym, ap, subst, ◌∙◌, append_assoc, arith, inl, inr, ◌⊎◌}
use Rattle.std.specs.List.{All, AllPairs, Contains, swap, fold}
use Rattle.std.specs.List.Sorted.{IsNonDecreasingBy, IsPermutation}
use Rattle.std.proofs.lemmas.Bool.{cases_eq, cases_lt}
use Rattle.std.proofs.lemmas.List.{append-nil, get_or-set_other, get_or-set_same, length-set}
use Rattle.std.proofs.lemmas.List.Edits.{length-swap, swap_is}
use Rattle.std.proofs.lemmas.List.Sorted.{Contains-permutation, IsPermutation-append_left, IsPermutation-keeps, IsPermutation-refl, IsPermutation-sym, IsPermutation-to_front, IsPermutation-trans}
use Rattle.umem_base.specs.Ordered.{IsOrderedBy, put_by}
use Rattle.umem_base.proofs.Lists.{Contains-here, Contains-there}
use Rattle.umem_base.proofs.OrderedLemmas.{All-put_by, AllPairs-put_by, Contains-cases, Contains-nil, IsPermutation-put_by}

-- items at two indices have two keys
abbrev pub HasOwnKeys : {X : Type 0} → (X → ℕ) → List X → Type 0
HasOwnKeys {X} key xs = (i j : ℕ) (d : X) → i < length xs → j < length xs → key (get_or xs i d) ≡ key (get_or xs j d) → i ≡ j

-- where an item of a list with two exchanged stood before
data IsExchanged (a b k s : ℕ) : Type 0 where
  first : k ≡ a → s ≡ b → IsExchanged a b k s
  second : k ≡ b → s ≡ a → IsExchanged a b k s
  other : k ≢ a → k ≢ b → s ≡ k → IsExchanged a b k s

exchanged_at : {X : Type 0} (xs : List X) (a b k : ℕ) (d : X) → a < length xs → b < length xs → (s : ℕ) × IsExchanged a b k s × (get_or (swap xs a b) k d ≡ get_or xs s d)
exchanged_at xs a b k d la lb =
    let e = sym (ap (λ ys. get_or ys k d) (swap_is xs a b d la lb)) in
    let one = set xs a (get_or xs b d) in
    let long : length one ≡ length xs = length-set xs a (get_or xs b d) in
    elim (cases_eq k b) [
      | inl here ↦ (a, second here refl, e ∙ subst (λ (n : ℕ). get_or (set one b (get_or xs a d)) n d ≡ get_or xs a d) (sym here) (get_or-set_same one b (get_or xs a d) d (omega (arith, long))))
      | inr ne ↦
          let past : get_or (set one b (get_or xs a d)) k d ≡ get_or one k d = get_or-set_other one b k (get_or xs a d) d ne in
          elim (cases_eq k a) [
            | inl there ↦ (b, first there refl, e ∙ past ∙ subst (λ (n : ℕ). get_or one n d ≡ get_or xs b d) (sym there) (get_or-set_same xs a (get_or xs b d) d la))
            | inr far ↦ (k, other far ne refl, e ∙ past ∙ get_or-set_other xs a k (get_or xs b d) d far)
          ]
    ]

exchanged_same : (a b i j s t : ℕ) → IsExchanged a b i s → IsExchanged a b j t → s ≡ t → i ≡ j
exchanged_same a b i j s t (first p q) (first u v) e = omega arith
exchanged_same a b i j s t (first p q) (second u v) e = omega arith
exchanged_same a b i j s t (first p q) (other u v w) e = absurd (v (omega arith))
exchanged_same a b i j s t (second p q) (first u v) e = omega arith
exchanged_same a b i j s t (second p q) (second u v) e = omega arith
exchanged_same a b i j s t (second p q) (other u v w) e = absurd (u (omega arith))
exchanged_same a b i j s t (other p r q) (first u v) e = absurd (r (omega arith))
exchanged_same a b i j s t (other p r q) (second u v) e = absurd (p (omega arith))
exchanged_same a b i j s t (other p r q) (other u v w) e = omega arith

exchanged_below : (a b k s n : ℕ) → a < n → b < n → k < n → IsExchanged a b k s → s < n
exchanged_below a b k s n la lb lt (first p q) = omega arith
exchanged_below a b k s n la lb lt (second p q) = omega arith
exchanged_below a b k s n la lb lt (other p r q) = omega arith

HasOwnKeys-swap : {X : Type 0} (key : X → ℕ) (xs : List X) (a b : ℕ) → a < length xs → b < length xs → HasOwnKeys key xs → HasOwnKeys key (swap xs a b)
HasOwnKeys-swap key xs a b la lb own = λ i j d li lj e.
    let long = length-swap xs a b in
    let s = exchanged_at xs a b i d la lb in
    let t = exchanged_at xs a b j d la lb in
    let same : key (get_or xs s.0 d) ≡ key (get_or xs t.0 d) = sym (ap key s.2) ∙ e ∙ ap key t.2 in
    exchanged_same a b i j s.0 t.0 s.1 t.1 (own s.0 t.0 d (exchanged_below a b i s.0 (length xs) la lb (omega arith) s.1) (exchanged_below a b j t.0 (length xs) la lb (omega arith) t.1) same)

HasOwnKeys-permutation : {X : Type 0} (key : X → ℕ) (xs ys : List X) → IsPermutation xs ys → HasOwnKeys key xs → HasOwnKeys key ys
HasOwnKeys-permutation key xs ys moves own = IsPermutation-keeps xs (HasOwnKeys key) own (λ l i j li lj h. HasOwnKeys-swap key l i j li lj h) ys moves

-- the keys rise
abbrev pub RisesBy : {X : Type 0} → (X → ℕ) → List X → Type 0
RisesBy key xs = AllPairs (λ x y. key x < key y) xs

own_from_rising : {X : Type 0} (key : X → ℕ) (xs : List X) → RisesBy key xs → HasOwnKeys key xs
own_from_rising key xs rises = λ i j d li lj e. elim (cases_lt i j) [
  | inl less ↦ absurd (omega (arith, rises i j d less lj))
  | inr more ↦ elim (cases_lt j i) [ inl less ↦ absurd (omega (arith, rises j i d less li)) | inr same ↦ omega arith ]
]

rising_from_own : {X : Type 0} (key : X → ℕ) (xs : List X) → IsNonDecreasingBy key xs → HasOwnKeys key xs → RisesBy key xs
rising_from_own key xs up own = λ i j d lt within. elim (cases_lt (key (get_or xs i d)) (key (get_or xs j d))) [
  | inl less ↦ less
  | inr more ↦
      let low = up i j d (omega arith) within in
      let same : i ≡ j = own i j d (omega arith) within (omega arith) in
      absurd (omega arith)
]

rises_tail : {X : Type 0} (key : X → ℕ) (x : X) (xs : List X) → RisesBy key (x ∷ xs) → RisesBy key xs
rises_tail key x xs rises = λ i j d lt within. rises (suc i) (suc j) d (omega arith) (omega arith)

above_head : {X : Type 0} (key : X → ℕ) (x y : X) (xs : List X) → RisesBy key (x ∷ xs) → Contains xs y → key x < key y
above_head key x y xs rises has = subst (λ z. key x < key z) has.2 (rises 0 (suc has.0) y (omega arith) (omega (arith, has.1)))

head_same : {X : Type 0} (key : X → ℕ) (x y : X) (xs ys : List X) → RisesBy key (x ∷ xs) → RisesBy key (y ∷ ys) → Contains (y ∷ ys) x → Contains (x ∷ xs) y → x ≡ y
head_same key x y xs ys up rises here there =
    elim (Contains-cases y x ys here) [
      | inl e ↦ sym e
      | inr behind ↦ elim (Contains-cases x y xs there) [ inl e ↦ e | inr after ↦ absurd (omega (arith, above_head key y x ys rises behind, above_head key x y xs up after)) ]
    ]

tail_has : {X : Type 0} (key : X → ℕ) (x y z : X) (xs ys : List X) → RisesBy key (x ∷ xs) → x ≡ y → Contains (y ∷ ys) z → Contains xs z → Contains ys z
tail_has key x y z xs ys rises e here behind =
    elim (Contains-cases y z ys here) [
      | inl same ↦ absurd (omega (arith, above_head key x z xs rises behind, ap key (e ∙ same)))
      | inr after ↦ after
    ]

-- two lists that rise and have the same items are one
same_from_items : {X : Type 0} (key : X → ℕ) (xs ys : List X) → RisesBy key xs → RisesBy key ys → ((z : X) → Contains xs z → Contains ys z) → ((z : X) → Contains ys z → Contains xs z) → xs ≡ ys
same_from_items key [] [] up rises there back = refl
same_from_items key [] (y ∷ ys) up rises there back = Contains-nil y (back y (Contains-here y ys))
same_from_items key (x ∷ xs) [] up rises there back = Contains-nil x (there x (Contains-here x xs))
same_from_items {X} key (x ∷ xs) (y ∷ ys) up rises there back =
    let head : x ≡ y = head_same key x y xs ys up rises (there x (Contains-here x xs)) (back y (Contains-here y ys)) in
    let tail : xs ≡ ys = same_from_items key xs ys (rises_tail key x xs up) (rises_tail key y ys rises)
    (λ z has. tail_has key x y z xs ys up head (there z (Contains-there x z xs has)) has)
    (λ z has. tail_has key y x z ys xs rises (sym head) (back z (Contains-there y z ys has)) has) in
    ap (λ (w : X). w ∷ xs) head ∙ ap (λ (ws : List X). y ∷ ws) tail

-- a list that does not fall is the one that rises, where one has the items of the other
pub same_from_permutation : {X : Type 0} (key : X → ℕ) (xs ys : List X) → RisesBy key xs → IsNonDecreasingBy key ys → IsPermutation xs ys → ys ≡ xs
same_from_permutation key xs ys up rises moves =
    let own = HasOwnKeys-permutation key xs ys moves (own_from_rising key xs up) in
    same_from_items key ys xs (rising_from_own key ys rises own) up (λ z. Contains-permutation ys xs z (IsPermutation-sym xs ys moves)) (λ z. Contains-permutation xs ys z moves)

-- ---- items put at their places, one after the other

pub fold_put_permutation : {X : Type 0} (key : X → ℕ) (acc xs : List X) → IsPermutation (acc ++ xs) (fold (put_by key) acc xs)
fold_put_permutation key acc [] = subst (λ ys. IsPermutation (acc ++ []) ys) (append-nil acc) (IsPermutation-refl (acc ++ []))
fold_put_permutation {X} key acc (x ∷ xs) =
    let one : IsPermutation (acc ++ x ∷ []) (put_by key acc x) = IsPermutation-trans (acc ++ x ∷ []) (x ∷ acc) (put_by key acc x) (IsPermutation-to_front acc x) (IsPermutation-put_by key acc x) in
    let more = IsPermutation-append_left xs (acc ++ x ∷ []) (put_by key acc x) one in
    let rest = fold_put_permutation key (put_by key acc x) xs in
    subst (λ (ys : List X). IsPermutation ys (fold (put_by key) (put_by key acc x) xs)) (append_assoc acc (x ∷ []) xs) (IsPermutation-trans ((acc ++ x ∷ []) ++ xs) (put_by key acc x ++ xs) (fold (put_by key) (put_by key acc x) xs) more rest)

-- where each two of the items stand one below the other, those that were put in order do
pub fold_put_apart : {X : Type 0} (key : X → ℕ) (R : X → X → Type 0) → ((x y : X) → R x y → key x < key y) → (acc xs : List X) → AllPairs R acc → All (λ x. All (λ y. R x y ⊎ R y x) acc) xs → AllPairs (λ x y. R x y ⊎ R y x) xs
    → AllPairs R (fold (put_by key) acc xs)
fold_put_apart key R below acc [] rises across apart = rises
fold_put_apart {X} key R below acc (x ∷ xs) rises across apart =
    let ordered : IsOrderedBy key acc = λ i j d lt within. omega (arith, below (get_or acc i d) (get_or acc j d) (rises i j d lt within)) in
    let here : All (λ y. R x y ⊎ R y x) acc = across 0 x (omega arith) in
    let low : All (λ y. key y ≤ key x → R y x) acc = λ k d lt le. elim (here k d lt) [ inl up ↦ absurd (omega (arith, below x (get_or acc k d) up)) | inr down ↦ down ] in
    let high : All (λ y. key x < key y → R x y) acc = λ k d lt le. elim (here k d lt) [ inl up ↦ up | inr down ↦ absurd (omega (arith, below (get_or acc k d) x down)) ] in
    let more = AllPairs-put_by R key acc x ordered rises low high in
    fold_put_apart key R below (put_by key acc x) xs more
    (λ k d lt. All-put_by (λ y. R (get_or xs k d) y ⊎ R y (get_or xs k d)) key acc x (elim (apart 0 (suc k) d (omega arith) (omega arith)) [ inl up ↦ inr up | inr down ↦ inl down ]) (across (suc k) d (omega arith)))
    (λ i j d lt within. apart (suc i) (suc j) d (omega arith) (omega arith))
