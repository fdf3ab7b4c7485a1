use Rattle.std.proofs.Common.{◌≡◌, ◌*◌, ◌≤◌, ℕ, take}
use Rattle.std.specs.Prelude.{sum_by}
use Rattle.plain_heap.specs.Setting.{geometry_in}
use Rattle.yardstick.proofs.kept.Kept.next_chunk.Given as goal

abbrev pub invariant-loop-grown : goal.invariant-loop-grown
invariant-loop-grown l = record {
  few : l.next ≤ 512 * l.grown-index;
  sum : l.next ≡ sum_by (λ (grown : ℕ). (geometry_in l.setting grown).rounds) (take l.grown-index l.self.grown.items);
}
