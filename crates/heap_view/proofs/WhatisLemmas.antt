-- Pieces that are appended one behind the other.
use Rattle.std.proofs.Common.{◌≡◌, ℕ, List, ◌++◌, ap, ◌∙◌, append_assoc}

-- a piece that is another one
pub piece : (now old a b : List ℕ) → now ≡ old ++ a → a ≡ b → now ≡ old ++ b
piece now old a b e same = e ∙ ap (λ (xs : List ℕ). old ++ xs) same

pub pieces : (start one two a b : List ℕ) → one ≡ start ++ a → two ≡ one ++ b → two ≡ start ++ (a ++ b)
pieces start one two a b e f = f ∙ ap (λ (xs : List ℕ). xs ++ b) e ∙ append_assoc start a b
