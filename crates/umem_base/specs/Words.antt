-- Bytes that hold one word of eight bytes again and again.
use Rattle.std.specs.Prelude.{ℕ, ◌%◌, List, map, slice_index}
use Rattle.std.specs.Int as int
use Rattle.std.specs.Int.{to_le_bytes}
use Rattle.std.specs.List.{range_with_len}

-- so many bytes of one word again and again, its lowest byte first
abbrev pub repeated : ℕ → ℕ → List ℕ
repeated count word = map (λ k. slice_index (to_le_bytes int.w64 word) (k % 8)) (range_with_len 0 count)
