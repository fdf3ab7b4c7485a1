use Rattle.std.proofs.Common.{◌∙◌, ap, Some}
use Rattle.clap.specs.Words.{app_of}
use Rattle.umem_words.proofs.ToldLemmas.{told_err, told_ok}
use Rattle.umem_words.proofs.command.read_told.Goals as goal

pub returns-in-Ok : goal.returns-in-Ok
returns-in-Ok c = ap Some c.told_in.ensures
    ∙ told_ok (app_of c.in_ok-command.command) _ c.in-Ok.matches c.in_ok-command.ensures c.in-Ok.ensures.matches
    c.in-Ok.ensures.kinds

pub returns : goal.returns
returns c = told_err (app_of c.in_ok-command.command) _ c.in-Err.error c.in_ok-command.ensures c.in-Err.ensures.kinds
    (λ same. c.in_default.not-OutOfMemory (c.kind.ensures ∙ same))
