-- What an allocation finds at its CPU.
use Rattle.std.specs.Prelude.{ℕ}
use Rattle.magazine.specs.declared.need.Need.{Need}
use Rattle.magazine.specs.declared.need.Need.TheVariants.{Got, WantFull}

-- a fact of the round that it got, or one where a full magazine is wanted
abbrev pub MatchNeed : Need → (ℕ → Type 0) → Type 0 → Type 0
MatchNeed (Got round) P Q = P round
MatchNeed WantFull P Q = Q
