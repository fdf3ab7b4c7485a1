-- Lists of numbers in pieces: what stands in a piece, and that no number stands twice.
use Rattle.std.proofs.Common.{ℕ, zero, suc, ◌<◌, List, [], ◌∷◌, length, get_or, sym, subst, arith, inl, inr}
use Rattle.std.specs.Prelude.{All, AllPairs, Contains}
use Rattle.std.specs.List.{flat_map}
use Rattle.std.proofs.lemmas.List.Elements.{All-contains, All-contains_itself, All-weaker, Contains-append_cases, Contains-append_left, Contains-append_right, Contains-get_or}
use Rattle.umem_base.proofs.Lists.{Contains-here, Contains-there}
use Rattle.umem_base.proofs.OrderedLemmas.{Contains-cases, Contains-nil}
use Rattle.shelf.proofs.Lists.{AreDistinct, AreDistinct-append, AreDistinct-behind, AreDistinct-front, apart_in_distinct}

-- what holds of each number that stands in a list, holds of all
pub All-standing : {X : Type 0} (P : X → Type 0) (xs : List X) → ((x : X) → Contains xs x → P x) → All P xs
All-standing P xs each = All-weaker (Contains xs) P each xs (All-contains_itself xs)

-- ---- pieces

-- what stands in a piece stands in the whole
pub in_whole : {X : Type 0} (f : X → List ℕ) (xs : List X) (x : X) (n : ℕ) → Contains xs x → Contains (f x) n
    → Contains (flat_map f xs) n
in_whole f [] x n there held = Contains-nil x there
in_whole {X} f (y ∷ xs) x n there held = elim (Contains-cases y x xs there) [
  | inl is ↦ Contains-append_left (f y) (flat_map f xs) n (subst (λ (z : X). Contains (f z) n) (sym is) held)
  | inr later ↦ Contains-append_right (f y) (flat_map f xs) n (in_whole f xs x n later held)
]

-- what stands in the whole stands in a piece
pub in_piece : {X : Type 0} (f : X → List ℕ) (xs : List X) (n : ℕ) → Contains (flat_map f xs) n
    → (x : X) × Contains xs x × Contains (f x) n
in_piece f [] n held = Contains-nil n held
in_piece f (y ∷ xs) n held = elim (Contains-append_cases (f y) (flat_map f xs) n held) [
  | inl here ↦ (y, Contains-here y xs, here)
  | inr there ↦ let rest = in_piece f xs n there in (rest.0, Contains-there y rest.0 xs rest.1, rest.2)
]

-- no number stands in both
abbrev pub AreApart : List ℕ → List ℕ → Type 0
AreApart xs ys = (n : ℕ) → Contains xs n → Contains ys n → ⊥

-- pieces in each of which no number stands twice, and no two of which have one in common
pub distinct_whole : {X : Type 0} (f : X → List ℕ) (xs : List X) → All (λ x. AreDistinct (f x)) xs
    → AllPairs (λ x y. AreApart (f x) (f y)) xs → AreDistinct (flat_map f xs)
distinct_whole f [] each apart = λ i j d less lt. absurd (omega arith)
distinct_whole f (x ∷ xs) each apart =
    AreDistinct-append (f x) (flat_map f xs) (each 0 x (omega arith))
    (distinct_whole f xs (λ k d lt. each (suc k) d (omega arith))
    (λ i j d less lt. apart (suc i) (suc j) d (omega arith) (omega arith)))
    (λ n here behind.
    let from = in_piece f xs n behind in
    All-contains (λ y. AreApart (f x) (f y)) xs from.0
    (λ k d lt. apart 0 (suc k) d (omega arith) (omega arith)) from.1 n here from.2)

-- where no number stands twice in the whole, none does in a piece
pub distinct_piece : {X : Type 0} (f : X → List ℕ) (xs : List X) (x : X) → AreDistinct (flat_map f xs) → Contains xs x
    → AreDistinct (f x)
distinct_piece f [] x distinct there = Contains-nil x there
distinct_piece {X} f (y ∷ xs) x distinct there = elim (Contains-cases y x xs there) [
  | inl is ↦ subst (λ (z : X). AreDistinct (f z)) is (AreDistinct-front (f y) (flat_map f xs) distinct)
  | inr later ↦ distinct_piece f xs x (AreDistinct-behind (f y) (flat_map f xs) distinct) later
]

-- and no two pieces have one in common
pub pieces_apart : {X : Type 0} (f : X → List ℕ) (xs : List X) (i j : ℕ) (d : X) → AreDistinct (flat_map f xs) → i < j
    → j < length xs → AreApart (f (get_or xs i d)) (f (get_or xs j d))
pieces_apart f [] i j d distinct less lt = absurd (omega arith)
pieces_apart f (x ∷ xs) zero zero d distinct less lt = absurd (omega arith)
pieces_apart f (x ∷ xs) zero (suc j) d distinct less lt = λ n here there.
    apart_in_distinct (f x) (flat_map f xs) n distinct here
    (in_whole f xs (get_or xs j d) n (Contains-get_or xs j d (omega arith)) there)
pieces_apart f (x ∷ xs) (suc i) zero d distinct less lt = absurd (omega arith)
pieces_apart f (x ∷ xs) (suc i) (suc j) d distinct less lt =
    pieces_apart f xs i j d (AreDistinct-behind (f x) (flat_map f xs) distinct) (omega arith) (omega arith)
