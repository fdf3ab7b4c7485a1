use Rattle.shelf.proofs.DrainLemmas.{drained_is, gathered_complete}
use Rattle.shelf.proofs.laws.drains_keep_all.Goals as goal

pub returns-clause-keeps : goal.returns-clause-keeps
returns-clause-keeps c = drained_is

pub returns-clause-complete : goal.returns-clause-complete
returns-clause-complete c = gathered_complete
