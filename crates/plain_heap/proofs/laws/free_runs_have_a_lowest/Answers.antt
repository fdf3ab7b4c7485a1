use Rattle.plain_heap.proofs.PagesLemmas.{has_lowest}
use Rattle.plain_heap.proofs.laws.free_runs_have_a_lowest.Goals as goal

pub returns : goal.returns
returns c = has_lowest
