-- What a space ends as, once a borrow of some of its bytes has ended.
use Rattle.std.specs.Prelude.{ℕ, List, Option}
use Rattle.std.specs.Borrow.{Lends, LendsIf, MutBor, Fml, Array, u8}
use Rattle.addr_space.specs.Space.{Space, with_part_at, with_bytes}
use Rattle.addr_space.specs.contracts.space.Space.{the_row}

-- s ends with what was written through r over the bytes of one of its runs
abbrev pub LendsPartAt : MutBor Space → ℕ → ℕ → MutBor (List ℕ) → Fml
LendsPartAt s index from r = Lends the_row (Array u8 0) s r (with_part_at s.now index from)

-- s ends with what was written through r over its bytes from an address on
abbrev pub LendsBytes : MutBor Space → ℕ → MutBor (List ℕ) → Fml
LendsBytes s at r = Lends the_row (Array u8 0) s r (with_bytes s.now at)

-- the same where r is a reference, and at `None` s stays as it is
abbrev pub LendsBytesIf : MutBor Space → ℕ → Option (MutBor (List ℕ)) → Fml
LendsBytesIf s at r = LendsIf the_row (Array u8 0) s r (with_bytes s.now at) s.now
