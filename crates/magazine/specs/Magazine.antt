-- A magazine of rounds.
use Rattle.std.specs.Prelude.{◌≡◌, ℕ, ◌≤◌, List, [], length}

-- how many rounds fit, and those in it, oldest first
pub record Magazine : Type 0 where
  pub size : ℕ
  pub rounds : List ℕ

-- no round is in it
abbrev pub IsEmpty : Magazine → Type 0
IsEmpty magazine = magazine.rounds ≡ []

-- no more rounds fit
abbrev pub IsFull : Magazine → Type 0
IsFull magazine = length magazine.rounds ≡ magazine.size

-- at least one round fits, and those in it do
pub record IsMagazine (magazine : Magazine) : Type 0 where
  pub some : 1 ≤ magazine.size
  pub fit : length magazine.rounds ≤ magazine.size
