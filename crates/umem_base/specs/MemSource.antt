-- A source in memory.
use Rattle.std.specs.Prelude.{ℕ, min, List, length, drop, if◌then◌else◌}
use Rattle.umem_base.specs.FaultPlan.{FaultPlan, fails_next, after_next_call, counted_if}

-- the bytes that are left, which reads fail, and how many have
pub record MemSource : Type 0 where
  pub left : List ℕ
  pub plan : FaultPlan
  pub faults : ℕ

-- a read moves as many bytes as are left and fit
abbrev pub after_read : MemSource → ℕ → MemSource
after_read source room = record {
  left = if fails_next source.plan then source.left else drop (min room (length source.left)) source.left;
  plan = after_next_call source.plan;
  faults = counted_if (fails_next source.plan) source.faults;
}
