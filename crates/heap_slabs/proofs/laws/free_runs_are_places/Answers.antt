use Rattle.heap_slabs.proofs.LawLemmas.{free_places}
use Rattle.heap_slabs.proofs.laws.free_runs_are_places.Goals as goal

pub returns : goal.returns
returns c = free_places
