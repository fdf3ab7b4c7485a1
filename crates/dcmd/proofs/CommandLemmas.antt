-- The first two colons of a line.
use Rattle.std.proofs.Common.{◌≡◌, ℕ, zero, suc, ◌<◌, true, false, List, [], ◌∷◌, length, take, drop, Some, None, refl, ap, arith}
use Rattle.std.specs.Prelude.{codes}
use Rattle.dcmd.specs.Commands.{begins, onto_front, parts_of}

-- no two colons
pub parts_of-none : (line : List ℕ) → ((k : ℕ) → k < length line → begins (codes "::") (drop k line) ≡ false) → parts_of line ≡ None
parts_of-none [] none = refl
parts_of-none (byte ∷ bytes) none =
    let other : begins (codes "::") (byte ∷ bytes) ≡ false = none 0 (omega arith) in
    rw other (ap (onto_front byte) (parts_of-none bytes (λ k lt. none (suc k) (omega arith))))

-- two colons at a place, and none before it
pub parts_of-at : (line : List ℕ) (place next : ℕ) → next ≡ suc (suc place) → place < length line → begins (codes "::") (drop place line) ≡ true → ((k : ℕ) → k < place → begins (codes "::") (drop k line) ≡ false)
    → parts_of line ≡ Some (take place line, drop next line)
parts_of-at line place next e lt here before = rw e (go line place lt here before)
  where
    go : (line : List ℕ) (place : ℕ) → place < length line → begins (codes "::") (drop place line) ≡ true → ((k : ℕ) → k < place → begins (codes "::") (drop k line) ≡ false)
        → parts_of line ≡ Some (take place line, drop (suc (suc place)) line)
    go [] place lt here before = absurd (omega arith)
    go (byte ∷ bytes) zero lt here before = rw here refl
    go (byte ∷ bytes) (suc place) lt here before =
        let other : begins (codes "::") (byte ∷ bytes) ≡ false = before 0 (omega arith) in
        rw other (ap (onto_front byte) (go bytes place (omega arith) here (λ k lt. before (suc k) (omega arith))))
