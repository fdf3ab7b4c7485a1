-- A log as contracts see it.
use Rattle.std.specs.Prelude.{ℕ, List}

-- how many items a log keeps, and those that it has, oldest first
pub record Log (T : Type 0) : Type 0 where
  pub capacity : ℕ
  pub items : List T
