-- Lists that several crates speak of: what stands in one, one item more or another one, what is left behind a place,
-- and the first place that passes a test.
use Rattle.std.proofs.Common.{◌≡◌, ◌≢◌, ℕ, zero, suc, ◌+◌, ◌-◌, ◌<◌, ◌≤◌, Bool, true, false, cond, List, [], ◌∷◌, length, get_or, set, map, take, drop, length-drop, Some, None, refl, ap, arith, inl, inr}
use Rattle.std.specs.Prelude.{AllPairs, Contains, insert, not, nat_lt, position}
use Rattle.std.specs.List.{position_or_len}
use Rattle.std.proofs.lemmas.Bool.{cases_order, ltb-false}
use Rattle.std.proofs.lemmas.List.{take_all}
use Rattle.std.proofs.lemmas.List.Edits.{length-insert, get_or-insert_below, get_or-insert_at, get_or-insert_above}

pub Contains-here : {X : Type 0} (x : X) (xs : List X) → Contains (x ∷ xs) x
Contains-here x xs = (0, omega arith, refl)

pub Contains-there : {X : Type 0} (x y : X) (xs : List X) → Contains xs y → Contains (x ∷ xs) y
Contains-there x y xs h = (suc h.0, omega (arith, h.1), h.2)

-- an item that R relates to those before and behind its place
pub AllPairs-insert : {X : Type 0} (R : X → X → Type 0) (xs : List X) (n : ℕ) (y : X) → n ≤ length xs → AllPairs R xs → ((k : ℕ) (d : X) → k < n → R (get_or xs k d) y) → ((k : ℕ) (d : X) → n ≤ k → k < length xs → R y (get_or xs k d)) → AllPairs R (insert xs n y)
AllPairs-insert R xs n y within pairs below above i j d ij jl =
    let longer = length-insert xs n y within in
    elim (cases_order i n) [
      | inl at ↦
          let up : j - 1 + 1 ≡ j = omega arith in
          rw (at, get_or-insert_at xs n y d within, ← up, get_or-insert_above xs n y d (j - 1) (omega arith) within) (above (j - 1) d (omega arith) (omega arith))
      | inr (inl low) ↦ elim (cases_order j n) [
        | inl at ↦ rw (at, get_or-insert_at xs n y d within, get_or-insert_below xs n y d i low within) (below i d low)
        | inr (inl both) ↦ rw (get_or-insert_below xs n y d i low within, get_or-insert_below xs n y d j both within) (pairs i j d ij (omega arith))
        | inr (inr over) ↦
            let up : j - 1 + 1 ≡ j = omega arith in
            rw (get_or-insert_below xs n y d i low within, ← up, get_or-insert_above xs n y d (j - 1) (omega arith) within) (pairs i (j - 1) d (omega arith) (omega arith))
      ]
      | inr (inr high) ↦
          let up : j - 1 + 1 ≡ j = omega arith in
          let up' : i - 1 + 1 ≡ i = omega arith in
          rw (← up, ← up', get_or-insert_above xs n y d (i - 1) (omega arith) within, get_or-insert_above xs n y d (j - 1) (omega arith) within) (pairs (i - 1) (j - 1) d (omega arith) (omega arith))
    ]

-- a slice from a place to the end
pub slice_rest : (xs : List ℕ) (at : ℕ) → take (length xs - at) (drop at xs) ≡ drop at xs
slice_rest xs at = take_all _ _ (omega (arith, length-drop at xs))

none_before_len : {X : Type 0} (p : X → Bool) (xs : List X) (d : X) → length xs ≤ position_or_len p xs → (k : ℕ) → k < length xs → p (get_or xs k d) ≡ false
none_before_len p [] d le k lt = absurd (omega arith)
none_before_len p (x ∷ xs) d le k lt = go (p x) refl le k lt (none_before_len p xs d)
  where
    go : (b : Bool) → p x ≡ b → suc (length xs) ≤ cond (not b) (1 + position_or_len p xs) 0 → (k : ℕ) → k < suc (length xs)
        → (length xs ≤ position_or_len p xs → (k : ℕ) → k < length xs → p (get_or xs k d) ≡ false) → p (get_or (x ∷ xs) k d) ≡ false
    go true e le k lt h = absurd (omega arith)
    go false e le zero lt h = e
    go false e le (suc k) lt h = h (omega arith) k (omega arith)

-- no place passes
pub position-None : {X : Type 0} (p : X → Bool) (xs : List X) (d : X) → position p xs ≡ None → (k : ℕ) → k < length xs → p (get_or xs k d) ≡ false
position-None p xs d h k lt = none_before_len p xs d (far (nat_lt (position_or_len p xs) (length xs)) refl h) k lt
  where
    far : (b : Bool) → nat_lt (position_or_len p xs) (length xs) ≡ b → cond b (Some (position_or_len p xs)) None ≡ None → length xs ≤ position_or_len p xs
    far true e h = absurd (cc h)
    far false e h = omega (arith, ltb-false _ _ e)

-- a function that changes no item
pub map_none : {X : Type 0} (f : X → X) (xs : List X) → ((k : ℕ) (d : X) → k < length xs → f (get_or xs k d) ≡ get_or xs k d) → map f xs ≡ xs
map_none f [] same = refl
map_none {X} f (x ∷ xs) same =
    let here : f x ≡ x = same 0 x (omega arith) in
    rw here (ap (λ (ys : List X). x ∷ ys) (map_none f xs (λ k d lt. same (suc k) d (omega arith))))

-- a function that changes one item alone
pub map_one : {X : Type 0} (f : X → X) (xs : List X) (i : ℕ) (y : X) → i < length xs → ((d : X) → f (get_or xs i d) ≡ y) → ((k : ℕ) (d : X) → k < length xs → k ≢ i → f (get_or xs k d) ≡ get_or xs k d) → map f xs ≡ set xs i y
map_one f [] i y lt changed others = absurd (omega arith)
map_one f (x ∷ xs) zero y lt changed others =
    let here : f x ≡ y = changed x in
    rw (here, map_none f xs (λ k d less. others (suc k) d (omega arith) (λ e. omega arith))) refl
map_one {X} f (x ∷ xs) (suc i) y lt changed others =
    let here : f x ≡ x = others 0 x (omega arith) (λ e. omega arith) in
    rw here (ap (λ (ys : List X). x ∷ ys) (map_one f xs i y (omega arith) changed (λ k d less ne. others (suc k) d (omega arith) (λ e. ne (omega arith)))))
