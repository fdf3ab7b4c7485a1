-- Bytes that are cut into parts.
use Rattle.std.specs.Prelude.{ℕ, List, [], ◌∷◌, ◌==◌, if◌then◌else◌}

-- the parts with one byte more at the front of the first
abbrev pub onto_first : ℕ → List (List ℕ) → List (List ℕ)
onto_first byte [] = (byte ∷ []) ∷ []
onto_first byte (part ∷ parts) = (byte ∷ part) ∷ parts

-- the parts before, between and behind the separators: one more than there are separators
abbrev pub cut : ℕ → List ℕ → List (List ℕ)
cut separator [] = [] ∷ []
cut separator (byte ∷ bytes) =
    if byte == separator then [] ∷ cut separator bytes
    else onto_first byte (cut separator bytes)
