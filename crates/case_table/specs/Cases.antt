-- Tables of rows. A row stands in some states and hits at some facts; states and facts are sets of bits.
use Rattle.std.specs.Prelude.{◌≡◌, ◌≢◌, ℕ, ◌<◌, Bool, ◌&&◌, List, Some, nat_lt, bit_and, slice_get}
use Rattle.case_table.specs.declared.rule.Rule.{Rule}

-- the row stands in the state, and hits at one of the facts
abbrev pub Hits : ℕ → ℕ → Rule → Type 0
Hits state facts row = (bit_and row.state state ≢ 0) × (bit_and row.fact facts ≢ 0)

-- the same as a test
abbrev pub is_hit : ℕ → ℕ → Rule → Bool
is_hit state facts row = nat_lt 0 (bit_and row.state state) && nat_lt 0 (bit_and row.fact facts)

-- row i hits, and no row before it
pub record IsFirstHit (state facts : ℕ) (rows : List Rule) (i : ℕ) : Type 0 where
  pub hit : (row : Rule) × (slice_get rows i ≡ Some row) × Hits state facts row
  pub before : (k : ℕ) (row : Rule) → k < i → slice_get rows k ≡ Some row → ¬ Hits state facts row
