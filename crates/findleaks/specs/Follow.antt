-- How far the search for reached buffers has come.
use Rattle.std.specs.Prelude.{◌≡◌, ℕ, ◌<◌, ◌≤◌, true, List, length, All, None, Some, slice_get, slice_index_or}
use Rattle.core_format.specs.declared.whole.Core.{Core}
use Rattle.heap_view.specs.declared.buffer.Buffer.{Buffer}
use Rattle.heap_view.specs.Buffers.{buffers_of}
use Rattle.heap_view.specs.Memory.{word_count, words_in}
use Rattle.heap_view.specs.Points.{place_of_word}
use Rattle.heap_view.specs.Reached.{IsReached}
use Rattle.findleaks.specs.Found.{Found, IsConsistent, is_marked}

-- what no buffer is
abbrev pub no_buffer : Buffer
no_buffer = record { address = 0; size = 0; cache = None; chunk = None }

-- the whole words of the buffer of that index
abbrev pub words_of_index : List Buffer → ℕ → ℕ
words_of_index buffers index = word_count (slice_index_or buffers index no_buffer)

-- the buffer of each marked index is reached
abbrev pub IsSoundStart : Core → Found → Type 0
IsSoundStart core found = (index : ℕ) (buffer : Buffer) → is_marked found index ≡ true
    → slice_get (buffers_of core) index ≡ Some buffer → IsReached core buffer

-- the buffer that the word points to is marked, if there is one
abbrev pub IsFollowed : List Buffer → Found → ℕ → Type 0
IsFollowed buffers found word =
    (index : ℕ) → place_of_word word buffers ≡ Some index → is_marked found index ≡ true

-- the words of the first buffers that were found, so many of them, are followed, and what is marked is reached and
-- has what was marked at the start
pub record IsSearched (core : Core) (start found : Found) (count : ℕ) : Type 0 where
  pub consistent : IsConsistent (length (buffers_of core)) found
  pub sound : IsSoundStart core found
  pub within : count ≤ length found.order
  pub kept : (index : ℕ) → is_marked start index ≡ true → is_marked found index ≡ true
  pub followed : (k : ℕ) (buffer : Buffer) → k < count
      → slice_get (buffers_of core) (slice_index_or found.order k 0) ≡ Some buffer
      → All (IsFollowed (buffers_of core) found) (words_in core buffer)
