use Rattle.shelf.proofs.OutLemmas.{AreOut-put, AreOut-taken, IsOut-first}
use Rattle.shelf.proofs.laws.rounds_in_hand_are_out.Goals as goal

pub returns-clause-taken : goal.returns-clause-taken
returns-clause-taken c = AreOut-taken

pub returns-clause-first : goal.returns-clause-first
returns-clause-first c = IsOut-first

pub returns-clause-put : goal.returns-clause-put
returns-clause-put c = AreOut-put
