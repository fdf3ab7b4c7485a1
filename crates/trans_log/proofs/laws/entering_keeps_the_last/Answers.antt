use Rattle.trans_log.proofs.LastLemmas.{entered-all}
use Rattle.trans_log.proofs.laws.entering_keeps_the_last.Goals as goal

pub returns-clause-all : goal.returns-clause-all
returns-clause-all g c = entered-all
