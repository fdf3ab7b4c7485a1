use Rattle.std.proofs.Common.{◌∙◌, refl, sym}
use Rattle.buftag.proofs.UnconstructedLemmas.{unconstructed_at-None, unconstructed_at-Some}
use Rattle.buftag.proofs.unconstructed.first_unconstructed.Goals as goal

pub returns-in_err-at-clause-value : goal.returns-in_err-at-clause-value
returns-in_err-at-clause-value c =
    c.from_residual.ensures ∙ sym (unconstructed_at-None c.args.bytes.now c.args.value (c.in_err-at.ensures.none.0 refl))

pub returns-clause-value : goal.returns-clause-value
returns-clause-value c = sym (unconstructed_at-Some c.args.bytes.now c.args.value c.in_ok-at.at c.in_ok-at.ensures.first)
