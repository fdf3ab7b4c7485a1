use Rattle.std.proofs.Common.{◌≡◌, ℕ, ◌<◌, false, drop}
use Rattle.std.specs.Prelude.{codes}
use Rattle.dcmd.specs.Commands.{begins}
use Rattle.dcmd.proofs.commands.split_parts.Given as goal

abbrev pub invariant-loop-place : goal.invariant-loop-place
invariant-loop-place l = (k : ℕ) → k < l.place → begins (codes "::") (drop k l.line) ≡ false
