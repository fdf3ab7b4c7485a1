-- The buffers that were handed out, by their addresses.
use Rattle.std.specs.Prelude.{◌≡◌, ℕ, Option, None, Some, is_some, refl}
use Rattle.std.specs.Ordering.{nat_cmp}
use Rattle.std.specs.Coded.{Coded, code_by, coded×, coded_ℕ, coded_option}
use Rattle.std.specs.FinMap.{FinMap, get}
use Rattle.std.specs.FinMap as map
use Rattle.plain_heap.specs.contracts.held.Held.{the_row as held_row}
use Rattle.plain_heap.specs.declared.held.Held.{Held}
use Rattle.plain_heap.specs.State.{State, held_at, was_given}

-- what lives at each address that was handed out, if anything does there now
abbrev pub HeldByAddress : Type 0
HeldByAddress = FinMap nat_cmp (Option Held)

-- what lives at each address that was handed out, and the room for further allocations
pub record Live : Type 0 where
  pub buffers : HeldByAddress
  pub spare : ℕ

-- the buffers and the room are stored as the pair of them
abbrev pub live_code : Coded Live
live_code =
    code_by (HeldByAddress × ℕ) (coded× (map.code coded_ℕ (coded_option held_row.coded)) coded_ℕ)
    (λ live. (live.buffers, live.spare)) (λ pair. record { buffers = pair.0; spare = pair.1 }) (λ _. refl)

-- what lives where this was handed out, or nothing was
abbrev pub live_in : Option (Option Held) → Option Held
live_in None = None
live_in (Some held) = held

-- what lives at an address
abbrev pub live_at : HeldByAddress → ℕ → Option Held
live_at buffers address = live_in (get buffers address)

-- the book tells of each address what lives there, and whether it was ever handed out, as a history left them
pub record TellsLive (buffers : HeldByAddress) (state : State) : Type 0 where
  pub live : (address : ℕ) → live_at buffers address ≡ held_at state.live address
  pub given : (address : ℕ) → is_some (get buffers address) ≡ was_given state address
