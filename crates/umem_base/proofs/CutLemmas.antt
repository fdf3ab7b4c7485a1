-- Bytes that are cut at the first separator.
use Rattle.std.proofs.Common.{◌≡◌, ℕ, zero, suc, ◌<◌, false, eqb, List, [], ◌∷◌, ◌++◌, length, get_or, take, drop, refl, ap, arith}
use Rattle.std.proofs.lemmas.Bool.{ne_eqb, eq-eqb}
use Rattle.umem_base.specs.Cut.{onto_first, cut}

-- no separator among the bytes
pub cut_none : (separator : ℕ) (bytes : List ℕ) → ((k : ℕ) → k < length bytes → get_or bytes k 0 ≡ separator → ⊥) → cut separator bytes ≡ bytes ∷ []
cut_none separator [] h = refl
cut_none separator (b ∷ bytes) h =
    let other : eqb b separator ≡ false = ne_eqb b separator (h 0 (omega arith)) in
    rw other (ap (onto_first b) (cut_none separator bytes (λ k lt e. h (suc k) (omega arith) e)))

-- a separator at a place, and none before it
pub cut_at : (separator : ℕ) (bytes : List ℕ) (place : ℕ) → place < length bytes → get_or bytes place 0 ≡ separator → ((k : ℕ) → k < place → get_or bytes k 0 ≡ separator → ⊥)
    → cut separator bytes ≡ take place bytes ∷ cut separator (drop (suc place) bytes)
cut_at separator [] place lt here h = absurd (omega arith)
cut_at separator (b ∷ bytes) zero lt here h = rw (eq-eqb b separator here) refl
cut_at separator (b ∷ bytes) (suc place) lt here h =
    let other : eqb b separator ≡ false = ne_eqb b separator (h 0 (omega arith)) in
    rw other (ap (onto_first b) (cut_at separator bytes place (omega arith) here (λ k lt e. h (suc k) (omega arith) e)))

pub joined_at : (separator : ℕ) (bytes : List ℕ) (place : ℕ) → place < length bytes → get_or bytes place 0 ≡ separator → bytes ≡ take place bytes ++ separator ∷ drop (suc place) bytes
joined_at separator [] place lt here = absurd (omega arith)
joined_at separator (b ∷ bytes) zero lt here = ap (λ x. x ∷ bytes) here
joined_at separator (b ∷ bytes) (suc place) lt here = ap (λ (rest : List ℕ). b ∷ rest) (joined_at separator bytes place (omega arith) here)
