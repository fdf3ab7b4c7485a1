-- Counts of faults. A device raises a count, and no code that only calls it can.
use Rattle.std.specs.Prelude.{◌≡◌, ℕ, ◌-◌, ◌^◌, ◌<◌, ◌≤◌, ◌⊎◌, Result, MatchResult}

-- The count rose. One that stands at the last value of its type rises no more.
abbrev pub Rose : ℕ → ℕ → Type 0
Rose before now = (before < now) ⊎ ((2 ^ 64 - 1 ≤ before) × (now ≡ before))

-- a call that failed raised the count, and a call with another answer left it
abbrev pub Counts : {T E : Type 0} → ℕ → ℕ → Result T E → Type 0
Counts before now result = MatchResult result (λ _. now ≡ before) (λ _. Rose before now)
