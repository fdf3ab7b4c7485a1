-- How much a script may have.
use Rattle.std.specs.Prelude.{◌≡◌, ℕ, ◌==◌, if◌then◌else◌}
use Rattle.script.specs.declared.limits.TheConstants.{FIRST_OWN_SLOT, MOST_BYTES, MOST_CALLS_1, MOST_CALLS_2, MOST_FRAMES, MOST_OFFSET, MOST_PHASES, MOST_STORED}
use Rattle.script.specs.declared.make.TheConstants.{MADE_SIZES, MADE_SLOTS}

-- the calls of the longest script of the version
abbrev pub most_calls : ℕ → ℕ
most_calls version = if version == 2 then MOST_CALLS_2 else MOST_CALLS_1

-- the numbers that scripts and generated scripts go by
pub record AreNumbersOfScripts : Type 0 where
  pub bytes : MOST_BYTES ≡ 4194304
  pub calls_1 : MOST_CALLS_1 ≡ 65536
  pub calls_2 : MOST_CALLS_2 ≡ 131072
  pub own_slot : FIRST_OWN_SLOT ≡ 512
  pub phases : MOST_PHASES ≡ 4096
  pub frames : MOST_FRAMES ≡ 64
  pub stored : MOST_STORED ≡ 16
  pub offset : MOST_OFFSET ≡ 65535
  pub made_slots : MADE_SLOTS ≡ 64
  pub made_sizes : MADE_SIZES ≡ 512
