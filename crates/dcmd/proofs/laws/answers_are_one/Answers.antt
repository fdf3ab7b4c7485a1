use Rattle.dcmd.proofs.AnswerLemmas.{answers_one}
use Rattle.dcmd.proofs.laws.answers_are_one.Goals as goal

pub returns : goal.returns
returns c = answers_one
