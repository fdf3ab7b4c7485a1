-- The buffers that were found to be reached, and what a word adds to them.
use Rattle.std.specs.Prelude.{◌≡◌, ℕ, suc, ◌+◌, ◌<◌, Bool, true, false, List, [], ◌∷◌, ◌++◌, length, Option, Some, None, Contains, replicate, slice_index_or, slice_set, if◌then◌else◌}
use Rattle.std.specs.List.{fold, sum_by}
use Rattle.heap_view.specs.declared.buffer.Buffer.{Buffer}
use Rattle.heap_view.specs.Points.{place_of_word}

-- a mark for each buffer, and the indexes of the marked ones in the order in which they were found
pub record Found : Type 0 where
  pub marks : List Bool
  pub order : List ℕ

-- none of so many buffers is found
abbrev pub none_found : ℕ → Found
none_found count = record { marks = replicate count false; order = [] }

-- the buffer of that index is marked
abbrev pub is_marked : Found → ℕ → Bool
is_marked found index = slice_index_or found.marks index false

-- that buffer is found, unless it was
abbrev pub with_found : Found → ℕ → Found
with_found found index =
    if is_marked found index then found
    else record { marks = slice_set found.marks index true; order = found.order ++ index ∷ [] }

abbrev pub with_place : Found → Option ℕ → Found
with_place found (Some index) = with_found found index
with_place found None = found

-- so is the buffer that a word points to
unfoldable pub with_word : List Buffer → Found → ℕ → Found
with_word buffers found word = with_place found (place_of_word word buffers)

-- and those that words point to, in their order
abbrev pub with_words : List Buffer → Found → List ℕ → Found
with_words buffers found words = fold (with_word buffers) found words

-- the weights of the marked indexes together
abbrev pub marked_sum : (ℕ → ℕ) → List Bool → ℕ
marked_sum weight [] = 0
marked_sum weight (mark ∷ marks) = (if mark then weight 0 else 0) + marked_sum (λ index. weight (suc index)) marks

-- so many buffers have a mark, and the order has each index that is marked, once, and no other one
pub record IsConsistent (count : ℕ) (found : Found) : Type 0 where
  pub sized : length found.marks ≡ count
  pub listed : (k : ℕ) → k < length found.order → is_marked found (slice_index_or found.order k 0) ≡ true
  pub complete : (index : ℕ) → is_marked found index ≡ true → Contains found.order index
  pub once : (weight : ℕ → ℕ) → sum_by weight found.order ≡ marked_sum weight found.marks
