-- The lines of a script: which bytes they hold, and which say something.
use Rattle.std.specs.Prelude.{ℕ, Bool, false, not, ◌||◌, ◌==◌, List, [], ◌∷◌, map, filter}
use Rattle.std.specs.Int.{is_in_range}
use Rattle.umem_base.specs.Lines.{is_blank, words_of}

-- a byte that a line may hold
abbrev pub is_line_byte : ℕ → Bool
is_line_byte byte = is_in_range 32 126 byte || is_blank byte

-- a word that makes its line a comment
abbrev pub is_comment : List ℕ → Bool
is_comment [] = false
is_comment (byte ∷ bytes) = byte == 35

-- the words are those of a line that says something: there is one, and the first begins no comment
abbrev pub is_kept : List (List ℕ) → Bool
is_kept [] = false
is_kept (word ∷ words) = not (is_comment word)

-- the words of each line that is not skipped
abbrev pub kept_lines : List (List ℕ) → List (List (List ℕ))
kept_lines lines = filter is_kept (map words_of lines)
