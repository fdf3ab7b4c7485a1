-- Two lists in one order that have the same items are one.
use Rattle.std.proofs.Common.{◌≡◌, suc, List, [], ◌∷◌, refl, sym, ap, ◌∙◌, subst, arith, inl, inr}
use Rattle.std.specs.Prelude.{AllPairs, Contains}
use Rattle.umem_base.proofs.Lists.{Contains-here, Contains-there}
use Rattle.umem_base.proofs.OrderedLemmas.{Contains-cases, Contains-nil}

-- no two items stand before one another
abbrev pub IsOneWay : {X : Type 0} → (X → X → Type 0) → Type 0
IsOneWay {X} R = (x y : X) → R x y → R y x → ⊥

tail_in_order : {X : Type 0} (R : X → X → Type 0) (x : X) (xs : List X) → AllPairs R (x ∷ xs) → AllPairs R xs
tail_in_order R x xs order = λ i j d lt within. order (suc i) (suc j) d (omega arith) (omega arith)

before_rest : {X : Type 0} (R : X → X → Type 0) (x y : X) (xs : List X) → AllPairs R (x ∷ xs) → Contains xs y → R x y
before_rest R x y xs order has = subst (λ z. R x z) has.2 (order 0 (suc has.0) y (omega arith) (omega (arith, has.1)))

first_same : {X : Type 0} (R : X → X → Type 0) (x y : X) (xs ys : List X) → IsOneWay R → AllPairs R (x ∷ xs) → AllPairs R (y ∷ ys) → Contains (y ∷ ys) x → Contains (x ∷ xs) y → x ≡ y
first_same R x y xs ys way one other here there =
    elim (Contains-cases y x ys here) [
      | inl e ↦ sym e
      | inr behind ↦ elim (Contains-cases x y xs there) [
        | inl e ↦ e
        | inr after ↦ absurd (way x y (before_rest R x y xs one after) (before_rest R y x ys other behind))
      ]
    ]

rest_has : {X : Type 0} (R : X → X → Type 0) (x y z : X) (xs ys : List X) → IsOneWay R → AllPairs R (x ∷ xs) → x ≡ y → Contains (y ∷ ys) z → Contains xs z → Contains ys z
rest_has R x y z xs ys way order e here behind =
    elim (Contains-cases y z ys here) [
      | inl same ↦
          let own : R x x = subst (λ w. R x w) (sym (e ∙ same)) (before_rest R x z xs order behind) in
          absurd (way x x own own)
      | inr after ↦ after
    ]

-- two lists in one order that have the same items are one
pub same_items : {X : Type 0} (R : X → X → Type 0) (xs ys : List X) → IsOneWay R → AllPairs R xs → AllPairs R ys → ((z : X) → Contains xs z → Contains ys z) → ((z : X) → Contains ys z → Contains xs z) → xs ≡ ys
same_items R [] [] way one other there back = refl
same_items R [] (y ∷ ys) way one other there back = Contains-nil y (back y (Contains-here y ys))
same_items R (x ∷ xs) [] way one other there back = Contains-nil x (there x (Contains-here x xs))
same_items {X} R (x ∷ xs) (y ∷ ys) way one other there back =
    let head : x ≡ y = first_same R x y xs ys way one other (there x (Contains-here x xs)) (back y (Contains-here y ys)) in
    let tail : xs ≡ ys = same_items R xs ys way (tail_in_order R x xs one) (tail_in_order R y ys other)
    (λ z has. rest_has R x y z xs ys way one head (there z (Contains-there x z xs has)) has)
    (λ z has. rest_has R y x z ys xs way other (sym head) (back z (Contains-there y z ys has)) has) in
    ap (λ (w : X). w ∷ xs) head ∙ ap (λ (ws : List X). y ∷ ws) tail
