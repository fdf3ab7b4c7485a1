-- Lists whose memory was taken when they were made.
use Rattle.std.specs.Prelude.{ℕ, List}

-- what a list with room is seen as: its items, and how many more fit
pub record BoundedVec (T : Type 0) : Type 0 where
  pub items : List T
  pub spare : ℕ
