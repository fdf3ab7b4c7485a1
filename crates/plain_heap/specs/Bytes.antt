-- The bytes that were written last, by their addresses: how they are read as words, and what a write leaves.
use Rattle.std.specs.Prelude.{ℕ, ◌+◌, ◌-◌, Bool, List, [], ◌∷◌, map, length, slice_index, ◌&&◌, nat_lt, nat_le, if◌then◌else◌}
use Rattle.std.specs.Int as int
use Rattle.std.specs.Int.{to_le_bytes, from_le_bytes}
use Rattle.std.specs.List.{range_with_len}

-- the byte that was written last at each address
abbrev pub Bytes : Type 0
Bytes = ℕ → ℕ

-- an address is one of so many from a base on
abbrev pub is_within : ℕ → ℕ → ℕ → Bool
is_within base length address = nat_le base address && nat_lt address (base + length)

-- the word at an address, least byte first
abbrev pub word_at : Bytes → ℕ → ℕ
word_at bytes at =
    from_le_bytes int.w64 (
    bytes at ∷ bytes (at + 1) ∷ bytes (at + 2) ∷ bytes (at + 3)
    ∷ bytes (at + 4) ∷ bytes (at + 5) ∷ bytes (at + 6) ∷ bytes (at + 7) ∷ [])

-- so many bytes from an address on
abbrev pub bytes_from : Bytes → ℕ → ℕ → List ℕ
bytes_from bytes at count = map (λ k. bytes (at + k)) (range_with_len 0 count)

-- the bytes with a word at an address
abbrev pub with_word : Bytes → ℕ → ℕ → Bytes
with_word bytes at word address =
    if is_within at 8 address then slice_index (to_le_bytes int.w64 word) (address - at) else bytes address

-- the bytes with so many zeros at an address
abbrev pub with_zeros : Bytes → ℕ → ℕ → Bytes
with_zeros bytes at length address = if is_within at length address then 0 else bytes address

-- the bytes with those of a list from an address on
abbrev pub with_stored : Bytes → ℕ → List ℕ → Bytes
with_stored bytes at stored address =
    if is_within at (length stored) address then slice_index stored (address - at) else bytes address
