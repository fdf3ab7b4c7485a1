-- Lists of items, each read by what was read before it.
use Rattle.std.specs.Prelude.{ℕ, zero, suc, Bool, true, not, ◌==◌, List, [], ◌∷◌, ◌++◌, ◌-◌, length, Option, Some, None, Result, Ok, nat_lt, slice_index, slice_get}
use Rattle.std.specs.List.{list_any}
use Rattle.core_format.specs.Reader.{Flaw, Reader, ◌>>=◌, record_at}

-- so many items more, behind those that stand before them
unfoldable pub items_at : {A : Type 0} → (List A → Reader → Result (A × Reader) Flaw) → ℕ → List A → Reader
    → Result (List A × Reader) Flaw
items_at item zero before here = Ok (before, here)
items_at item (suc count) before here = do
  next ← item before here
  items_at item count (before ++ next.0 ∷ []) next.1

-- a word of eight bytes
unfoldable pub one_word : Reader → Result (ℕ × Reader) Flaw
one_word here = do
  word ← record_at (8 ∷ []) here
  Ok (slice_index word.0 0, word.1)

-- a word behind others
abbrev pub next_word_at : List ℕ → Reader → Result (ℕ × Reader) Flaw
next_word_at before here = one_word here

-- so many words
abbrev pub words_at : ℕ → Reader → Result (List ℕ × Reader) Flaw
words_at count here = items_at next_word_at count [] here

-- the last of a list
abbrev pub last_of_list : {A : Type 0} → List A → Option A
last_of_list xs = slice_get xs (length xs - 1)

-- the number is above the one before it, if there is one
abbrev pub is_above : Option ℕ → ℕ → Bool
is_above None number = true
is_above (Some before) number = nat_lt before number

-- the number is another than the one before it
abbrev pub is_unlike : Option ℕ → ℕ → Bool
is_unlike None number = true
is_unlike (Some before) number = not (before == number)

-- the number stands in the list
abbrev pub has_number : List ℕ → ℕ → Bool
has_number numbers number = list_any (λ n. n == number) numbers
