-- Bytes that are not the one that a constructor left.
use Rattle.std.specs.Prelude.{◌≡◌, ◌≢◌, ℕ, ◌<◌, ◌==◌, not, List, length, position, slice_index, Option}

-- the offset of the first byte that is another one, whatever stands behind it
abbrev pub unconstructed_at : List ℕ → ℕ → Option ℕ
unconstructed_at bytes value = position (λ byte. not (byte == value)) bytes

-- the byte there is another one, and those before it are not
pub record IsFirstOther (bytes : List ℕ) (value at : ℕ) : Type 0 where
  pub within : at < length bytes
  pub other : slice_index bytes at ≢ value
  pub before : (k : ℕ) → k < at → slice_index bytes k ≡ value
