use Rattle.shelf.proofs.StandingLemmas.{without_complete_is}
use Rattle.shelf.proofs.laws.complete_slabs_go.Goals as goal

pub returns : goal.returns
returns c = without_complete_is
