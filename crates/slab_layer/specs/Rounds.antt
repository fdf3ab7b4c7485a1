-- Lists of rounds.
use Rattle.std.specs.Prelude.{◌≡◌, ℕ, List, length, slice_index}
use Rattle.std.specs.List.{range_with_len}

-- each number is one more than the number before it
abbrev pub AreConsecutive : List ℕ → Type 0
AreConsecutive chunks = chunks ≡ range_with_len (slice_index chunks 0) (length chunks)
