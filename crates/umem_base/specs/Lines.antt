-- The lines of bytes, and the words of a line.
use Rattle.std.specs.Prelude.{◌≡◌, ℕ, Bool, false, ◌||◌, ◌==◌, if◌then◌else◌, List, [], ◌∷◌, Option, Some, None}
use Rattle.std.specs.Borrow.{Bor}
use Rattle.umem_base.specs.Cut.{onto_first}

-- the lines before, between and behind the line ends; there is none behind the last line end if nothing follows it
abbrev pub lines_of : List ℕ → List (List ℕ)
lines_of [] = []
lines_of (byte ∷ bytes) = if byte == 10 then [] ∷ lines_of bytes else onto_first byte (lines_of bytes)

-- a space, a tab or a carriage return
abbrev pub is_blank : ℕ → Bool
is_blank byte = byte == 32 || byte == 9 || byte == 13

-- a byte before the words behind it: at the front of the first where that follows at once, else a word of its own
abbrev pub onto_word : ℕ → List ℕ → List (List ℕ) → List (List ℕ)
onto_word byte [] words = (byte ∷ []) ∷ words
onto_word byte (next ∷ bytes) words = if is_blank next then (byte ∷ []) ∷ words else onto_first byte words

-- the words of a line, which blanks separate
abbrev pub words_of : List ℕ → List (List ℕ)
words_of [] = []
words_of (byte ∷ bytes) = if is_blank byte then words_of bytes else onto_word byte bytes (words_of bytes)

-- a line without a word, or its first word and what stands behind it
abbrev pub SplitsWord : Option (Bor (List ℕ) × Bor (List ℕ)) → List ℕ → Type 0
SplitsWord None line = words_of line ≡ []
SplitsWord (Some parts) line = words_of line ≡ parts.0.now ∷ words_of parts.1.now

-- the bytes begin with one of a word
abbrev pub BeginsWord : List ℕ → Type 0
BeginsWord [] = ⊥
BeginsWord (byte ∷ bytes) = is_blank byte ≡ false
