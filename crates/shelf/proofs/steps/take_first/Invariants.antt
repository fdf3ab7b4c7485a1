use Rattle.std.proofs.Common.{◌≡◌, ℕ, ◌<◌, get_or}
use Rattle.magazine.specs.CpuCache.{AreEmpty, CpuCache}
use Rattle.shelf.proofs.steps.take_first.Given as goal

abbrev pub invariant-loop-cpu : goal.invariant-loop-cpu
invariant-loop-cpu l = record {
  same : l.cpu-items ≡ l.initial.cpu-items;
  none : (k : ℕ) (d : CpuCache) → k < l.cpu-index → AreEmpty (get_or l.cpu-items k d);
}
