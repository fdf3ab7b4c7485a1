-- What a mapped run ends as, once a borrow of a part of it has ended.
use Rattle.std.specs.Prelude.{ℕ, List}
use Rattle.std.specs.Borrow.{Lends, MutBor, Fml, Array, u8}
use Rattle.addr_space.specs.MappedRun.{MappedRun, with_part}
use Rattle.addr_space.specs.contracts.mapped_run.MappedRun.{the_row}

-- run ends with what was written through r over its bytes from an offset on
abbrev pub LendsPart : MutBor MappedRun → ℕ → MutBor (List ℕ) → Fml
LendsPart run from r = Lends the_row (Array u8 0) run r (with_part run.now from)
