-- What tests over lists and ranges tell.
use Rattle.std.proofs.Common.{◌≡◌, ℕ, zero, suc, ◌+◌, ◌<◌, ◌⊎◌, inl, inr, Bool, true, false, cond, not, ◌&&◌, ◌||◌, List, [], ◌∷◌, length, get_or, refl, sym, ap, ◌∙◌, subst, arith, add-zero}
use Rattle.std.specs.Prelude.{Contains, find, Option, Some, None}
use Rattle.std.specs.Bool.{Decides}
use Rattle.std.specs.List.{list_all, list_any, range_with_len}
use Rattle.std.proofs.lemmas.Bool.{and_parts, false≢true}
use Rattle.std.proofs.lemmas.List.{get_or_default}
use Rattle.std.proofs.lemmas.List.Folds.{list_any_at}
use Rattle.std.proofs.lemmas.List.FromFn.{get_or-range_with_len, length-range_with_len}
use Rattle.std.proofs.lemmas.List.Sums.{AllPass-from_list_all, list_all-from_AllPass}
use Rattle.umem_base.proofs.Lists.{Contains-here, Contains-there}

-- an item that passes, where one does
pub found_in : {X : Type 0} (p : X → Bool) (xs : List X) → list_any p xs ≡ true → (x : X) × Contains xs x × (p x ≡ true)
found_in p [] h = absurd (false≢true h)
found_in {X} p (first ∷ xs) h = go (p first) refl h (found_in p xs)
  where
    go : (b : Bool) → p first ≡ b → (b || list_any p xs) ≡ true → (list_any p xs ≡ true → (x : X) × Contains xs x × (p x ≡ true)) → (x : X) × Contains (first ∷ xs) x × (p x ≡ true)
    go true is some later = (first, Contains-here first xs, is)
    go false is some later = let there = later some in (there.0, Contains-there first there.0 xs there.1, there.2)

-- one item that passes is enough
pub any_in : {X : Type 0} (p : X → Bool) (xs : List X) (x : X) → Contains xs x → p x ≡ true → list_any p xs ≡ true
any_in p xs x there h = list_any_at p xs there.0 x there.1 (ap p there.2 ∙ h)

-- each item passes, where all do
pub all_in : {X : Type 0} (p : X → Bool) (xs : List X) (x : X) → list_all p xs ≡ true → Contains xs x → p x ≡ true
all_in p xs x h there = ap p (sym there.2) ∙ AllPass-from_list_all p xs h there.0 x there.1

-- all pass where each item does
pub all_from : {X : Type 0} (p : X → Bool) (xs : List X) → ((x : X) → Contains xs x → p x ≡ true) → list_all p xs ≡ true
all_from p xs h = list_all-from_AllPass p xs (λ k d lt. h (get_or xs k d) (k, lt, get_or_default xs k (get_or xs k d) d lt))

-- ---- ranges from 0 on

pub in_range : (n k : ℕ) → k < n → Contains (range_with_len 0 n) k
in_range n k lt = (k, omega (arith, length-range_with_len 0 n), get_or-range_with_len 0 n k k lt ∙ omega arith)

pub below_range : (n k : ℕ) → Contains (range_with_len 0 n) k → k < n
below_range n k there =
    let lt : there.0 < n = omega (arith, there.1, length-range_with_len 0 n) in
    let e : 0 + there.0 ≡ k = sym (get_or-range_with_len 0 n there.0 k lt) ∙ there.2 in
    omega (arith, e)

pub range_all : (p : ℕ → Bool) (n k : ℕ) → list_all p (range_with_len 0 n) ≡ true → k < n → p k ≡ true
range_all p n k h lt = all_in p (range_with_len 0 n) k h (in_range n k lt)

pub all_range : (p : ℕ → Bool) (n : ℕ) → ((k : ℕ) → k < n → p k ≡ true) → list_all p (range_with_len 0 n) ≡ true
all_range p n h = all_from p (range_with_len 0 n) (λ k there. h k (below_range n k there))

-- ---- parts of tests

pub both : (a b : Bool) → a ≡ true → b ≡ true → (a && b) ≡ true
both true b h i = i
both false b h i = absurd (false≢true h)

pub not_false : (b : Bool) → not b ≡ true → b ≡ false
not_false true h = sym h
not_false false h = refl

pub not_true : (b : Bool) → (b ≡ true → ⊥) → not b ≡ true
not_true true h = absurd (h refl)
not_true false h = refl

pub none_is : (b : Bool) → not b ≡ true → b ≡ true → ⊥
none_is true h i = false≢true h
none_is false h i = false≢true i
