-- Which calls of an object in memory fail, and counts of faults.
use Rattle.std.specs.Prelude.{ℕ, ◌+◌, ◌-◌, ◌^◌, min, Bool, List, ◌==◌, if◌then◌else◌}
use Rattle.std.specs.List.{list_any}

-- the numbers, from 0, of the calls that fail, and how many calls were made
pub record FaultPlan : Type 0 where
  pub failing : List ℕ
  pub calls : ℕ

-- whether the next call fails
abbrev pub fails_next : FaultPlan → Bool
fails_next plan = list_any (λ call. call == plan.calls) plan.failing

-- one more, where a count of 64 bits has room for it
abbrev pub counted : ℕ → ℕ
counted count = min (count + 1) (2 ^ 64 - 1)

-- the plan after one more call
abbrev pub after_next_call : FaultPlan → FaultPlan
after_next_call plan = record { failing = plan.failing; calls = counted plan.calls }

-- the count of faults after a call that may have failed
abbrev pub counted_if : Bool → ℕ → ℕ
counted_if fails faults = if fails then counted faults else faults
