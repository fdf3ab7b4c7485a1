use Rattle.std.proofs.Common.{◌≡◌, ◌≤◌, ℕ, eqb, take}
use Rattle.std.specs.Prelude.{count_by}
use Rattle.yardstick.proofs.kept.Kept.grows_of.Given as goal

abbrev pub invariant-loop-grown : goal.invariant-loop-grown
invariant-loop-grown l = record {
  few : l.made ≤ l.grown-index;
  count : l.made ≡ count_by (λ (grown : ℕ). eqb grown l.cache) (take l.grown-index l.self.grown.items);
}
