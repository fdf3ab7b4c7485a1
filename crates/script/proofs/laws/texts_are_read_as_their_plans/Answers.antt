use Rattle.script.proofs.PlanReads.{read-text, same-plan}
use Rattle.script.proofs.laws.texts_are_read_as_their_plans.Goals as goal

pub returns-clause-read : goal.returns-clause-read
returns-clause-read c = read-text

pub returns-clause-apart : goal.returns-clause-apart
returns-clause-apart c = same-plan
