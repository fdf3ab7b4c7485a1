-- Lists in which one item changes, comes last, or is kept by neither of two filters.
use Rattle.std.proofs.Common.{◌≡◌, ◌≢◌, ℕ, zero, suc, ◌<◌, ◌≤◌, Bool, false, List, [], ◌∷◌, ◌++◌, length, get_or, set, map, refl, ap, ◌∙◌, arith, inl, inr}
use Rattle.std.specs.Prelude.{All, filter}
use Rattle.std.proofs.lemmas.Bool.{cases_Bool}
use Rattle.umem_base.specs.Ordered.{put_by}
use Rattle.umem_base.proofs.OrderedLemmas.{put_by-behind}

-- what the new item shares with the old one
pub same_part-set : {X Y : Type 0} (f : X → Y) (xs : List X) (i : ℕ) (y : X) (k : ℕ) (d : X) → i < length xs → ((e : X) → f y ≡ f (get_or xs i e)) → f (get_or (set xs i y) k d) ≡ f (get_or xs k d)
same_part-set f [] i y k d lt same = absurd (omega arith)
same_part-set f (x ∷ xs) zero y zero d lt same = same x
same_part-set f (x ∷ xs) zero y (suc k) d lt same = refl
same_part-set f (x ∷ xs) (suc i) y zero d lt same = refl
same_part-set f (x ∷ xs) (suc i) y (suc k) d lt same = same_part-set f xs i y k d (omega arith) same

-- an item whose key is below no other comes last
pub put_by-last : {X : Type 0} (key : X → ℕ) (xs : List X) (y : X) → All (λ x. key x ≤ key y) xs → put_by key xs y ≡ xs ++ y ∷ []
put_by-last key [] y h = refl
put_by-last {X} key (x ∷ xs) y h =
    put_by-behind key x xs y (h 0 x (omega arith)) ∙ ap (λ (ys : List X). x ∷ ys) (put_by-last key xs y (λ k d lt. h (suc k) d (omega arith)))

-- what the one filter leaves out, the other would
pub filter-filter : {X : Type 0} (p q : X → Bool) (xs : List X) → All (λ x. q x ≡ false → p x ≡ false) xs → filter p (filter q xs) ≡ filter p xs
filter-filter p q [] h = refl
filter-filter {X} p q (x ∷ xs) h =
    let rest = filter-filter p q xs (λ k d lt. h (suc k) d (omega arith)) in
    elim (cases_Bool (q x)) [
      | inl kept ↦ elim (cases_Bool (p x)) [
        | inl both ↦ rw (kept, both) (ap (λ (ys : List X). x ∷ ys) rest)
        | inr gone ↦ rw (kept, gone) rest
      ]
      | inr gone ↦ rw (gone, h 0 x (omega arith) gone) rest
    ]
