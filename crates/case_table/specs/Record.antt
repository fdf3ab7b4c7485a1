-- The spelling of a record: one number after the other, each in the bytes of its width, the lowest first.
use Rattle.std.specs.Prelude.{◌≡◌, ℕ, ◌*◌, ◌^◌, ◌<◌, Bool, ◌||◌, ◌==◌, List, [], ◌∷◌, ◌++◌, length, take, drop, sum, IsTrue, Option, Some, None, if◌then◌else◌}
use Rattle.std.specs.List.{list_all}
use Rattle.byteorder.specs.Endian.{little_bytes, little_number}

-- a field has 1, 2, 4 or 8 bytes
abbrev pub is_width : ℕ → Bool
is_width width = width == 1 || width == 2 || width == 4 || width == 8

-- each is a width, and so many numbers of 8 bytes have an address
abbrev pub AreWidths : List ℕ → Type 0
AreWidths widths = IsTrue (list_all is_width widths) × (8 * length widths < 2 ^ 63)

-- the widths as a layout, if each is the width of a field
abbrev pub layout_of : List ℕ → Option (List ℕ)
layout_of widths = if list_all is_width widths then Some widths else None

-- there is one value for each width, and it fits
abbrev pub Fit : List ℕ → List ℕ → Type 0
Fit [] [] = Unit {0}
Fit (width ∷ widths) (value ∷ values) = (value < 256 ^ width) × Fit widths values
Fit _ _ = ⊥

-- the bytes of the values
abbrev pub spelling : List ℕ → List ℕ → List ℕ
spelling (width ∷ widths) (value ∷ values) = little_bytes width value ++ spelling widths values
spelling _ _ = []

-- the numbers at the front of the bytes, one for each width
abbrev pub numbers_at : List ℕ → List ℕ → List ℕ
numbers_at [] bytes = []
numbers_at (width ∷ widths) bytes = little_number width bytes ∷ numbers_at widths (drop width bytes)

-- the values fit, and their spelling stands in the bytes at that place
pub record StandAt (widths bytes : List ℕ) (at : ℕ) (values : List ℕ) : Type 0 where
  pub fit : Fit widths values
  pub spelled : take (sum widths) (drop at bytes) ≡ spelling widths values
