use Rattle.std.proofs.Common.{◌≡◌, ℕ, ◌+◌, ◌-◌, ◌<◌, List, [], ◌++◌, get_or, length, map}
use Rattle.script.specs.Generated.{drawn_turns, draws, size_held}
use Rattle.script.specs.Plan.{turn_of}
use Rattle.script.proofs.make.make_steps.Given as goal

abbrev pub invariant-loop-made : goal.invariant-loop-made
invariant-loop-made l = record {
  before : List ℕ;
  len : length l.sizes ≡ 64;
  sizes : (k : ℕ) → k < 64 → get_or l.sizes k 0 ≡ size_held before (1 + k);
  turns : map turn_of l.steps.items ++ drawn_turns before (draws l.state (l.ops - l._made)) ≡ drawn_turns [] (draws l.fn.seed l.ops);
}
