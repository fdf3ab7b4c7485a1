-- What a free finds at its CPU.
use Rattle.std.specs.Prelude.{ℕ}
use Rattle.magazine.specs.declared.room.Room.{Room}
use Rattle.magazine.specs.declared.room.Room.TheVariants.{Kept, WantEmpty}

-- a fact where the round is kept, or one of the round that comes back where an empty magazine is wanted
abbrev pub MatchRoom : Room → Type 0 → (ℕ → Type 0) → Type 0
MatchRoom Kept P Q = P
MatchRoom (WantEmpty round) P Q = Q round
