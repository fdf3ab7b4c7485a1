use Rattle.shelf.proofs.StandingLemmas.{with_slab_of_is}
use Rattle.shelf.proofs.laws.slabs_bring_their_rounds.Goals as goal

pub returns : goal.returns
returns c = with_slab_of_is
