use Rattle.plain_heap.proofs.PagesLemmas.{lowest_one}
use Rattle.plain_heap.proofs.laws.lowest_runs_are_one.Goals as goal

pub returns : goal.returns
returns c = lowest_one
