-- A sink in memory.
use Rattle.std.specs.Prelude.{ℕ, ◌-◌, Bool, List, ◌++◌, length, take, ◌||◌, nat_lt, if◌then◌else◌}
use Rattle.umem_base.specs.FaultPlan.{FaultPlan, fails_next, after_next_call, counted_if}

-- the bytes taken, the most that one write takes, and how many bytes there is room for in all
pub record MemSink : Type 0 where
  pub taken : List ℕ
  pub most : ℕ
  pub room : ℕ
  pub plan : FaultPlan
  pub faults : ℕ

-- what one write takes
abbrev pub piece_of : MemSink → List ℕ → List ℕ
piece_of sink bytes = take sink.most bytes

-- a write fails where it is planned to, and where it would take more than there is room for
abbrev pub write_fails : MemSink → List ℕ → Bool
write_fails sink bytes = fails_next sink.plan || nat_lt (sink.room - length sink.taken) (length (piece_of sink bytes))

-- a write takes the whole of its piece, or nothing where it fails
abbrev pub after_write : MemSink → List ℕ → MemSink
after_write sink bytes = record {
  taken = if write_fails sink bytes then sink.taken else sink.taken ++ piece_of sink bytes;
  most = sink.most;
  room = sink.room;
  plan = after_next_call sink.plan;
  faults = counted_if (write_fails sink bytes) sink.faults;
}
