-- How an address stands to a buffer, and to items that begin one behind the other.
use Rattle.std.specs.Prelude.{ℕ, ◌+◌, ◌<◌, ◌≤◌, List, length, nat_lt, slice_index_or, if◌then◌else◌}
use Rattle.std.specs.declared.cmp.Ordering.{Ordering}
use Rattle.std.specs.declared.cmp.Ordering.TheVariants.{Equal, Greater, Less}
use Rattle.heap_view.specs.declared.buffer.Buffer.{Buffer}

-- the buffer is above the address, has it, or is below it
abbrev pub order_of : Buffer → ℕ → Ordering
order_of buffer address =
    if nat_lt address buffer.address then Greater
    else (if nat_lt address (buffer.address + buffer.size) then Equal else Less)

-- the items before the index begin at the address or below, the others above
pub record IsCut {X : Type 0} (base : X → ℕ) (xs : List X) (address index : ℕ) : Type 0 where
  pub within : index ≤ length xs
  pub below : (k : ℕ) (d : X) → k < index → base (slice_index_or xs k d) ≤ address
  pub above : (k : ℕ) (d : X) → index ≤ k → k < length xs → address < base (slice_index_or xs k d)
