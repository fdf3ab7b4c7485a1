-- A slab, and what the calls on one look at and leave.
use Rattle.std.specs.Prelude.{◌≡◌, ◌≢◌, ℕ, ◌+◌, ◌^◌, ◌<◌, ◌≤◌, Bool, ◌&&◌, ◌||◌, ◌==◌, List, length, All, nat_lt, nat_le, slice_index, if◌then◌else◌}
use Rattle.std.specs.List.{range_with_len}
use Rattle.std.specs.List.Sorted.{IsStrictlyIncreasing}
use Rattle.umem_base.specs.Ordered.{left_out_by, put_by}

-- where it begins, the first of its chunks and how many there are, and those in its list, by rising number
pub record Slab : Type 0 where
  pub base : ℕ
  pub first : ℕ
  pub count : ℕ
  pub list : List ℕ

-- the chunk is one of the slab's
abbrev pub HasChunk : ℕ → Slab → Type 0
HasChunk chunk slab = (slab.first ≤ chunk) × (chunk < slab.first + slab.count)

-- the same as a test
abbrev pub has_chunk : ℕ → Slab → Bool
has_chunk chunk slab = nat_le slab.first chunk && nat_lt chunk (slab.first + slab.count)

-- each of the slab's chunks stands in its list
abbrev pub IsComplete : Slab → Type 0
IsComplete slab = slab.list ≡ range_with_len slab.first slab.count

-- the same as a test, of a slab that is sound
abbrev pub is_complete : Slab → Bool
is_complete slab = length slab.list == slab.count

-- the slab after a chunk has left its list
abbrev pub without_chunk : ℕ → Slab → Slab
without_chunk chunk slab = record slab { list = left_out_by (λ number. number) slab.list chunk }

-- the slab after a chunk has come to its list, if it is one of its own
abbrev pub with_chunk : ℕ → Slab → Slab
with_chunk chunk slab =
    if has_chunk chunk slab then record slab { list = put_by (λ number. number) slab.list chunk } else slab

-- the slab that these rounds make, each of them in its list
abbrev pub slab_of : ℕ → List ℕ → Slab
slab_of base rounds = record { base = base; first = slice_index rounds 0; count = length rounds; list = rounds }

-- the two have a chunk in common
abbrev pub shares_chunk : Slab → Slab → Bool
shares_chunk one other = nat_lt one.first (other.first + other.count) && nat_lt other.first (one.first + one.count)

-- the two begin at one base, or have a chunk in common
abbrev pub clashes : Slab → Slab → Bool
clashes one other = one.base == other.base || shares_chunk one other

-- it ends where the new one begins, or below, and has another base
abbrev pub IsApartBelow : Slab → Slab → Type 0
IsApartBelow new slab = (slab.base ≢ new.base) × (slab.first + slab.count ≤ new.first)

-- a slab has chunks, and its list rises and has no others
pub record IsSlab (slab : Slab) : Type 0 where
  pub some : 0 < slab.count
  pub fits : slab.first + slab.count ≤ 2 ^ 32
  pub rising : IsStrictlyIncreasing slab.list
  pub own : All (λ chunk. HasChunk chunk slab) slab.list
