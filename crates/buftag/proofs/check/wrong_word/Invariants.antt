use Rattle.std.proofs.Common.{◌≡◌, ℕ, ◌*◌, ◌<◌}
use Rattle.buftag.specs.Findings.{tag_word}
use Rattle.buftag.specs.declared.patterns.TheConstants.{FREE_WORD}
use Rattle.buftag.proofs.check.wrong_word.Given as goal

abbrev pub invariant-loop-index : goal.invariant-loop-index
invariant-loop-index l = (k : ℕ) → k < l.index → tag_word l.bytes (8 * k) ≡ FREE_WORD
