use Rattle.heap_accounts.proofs.PlacedLemmas.{placed_grow}
use Rattle.heap_accounts.proofs.laws.placed_histories_grow.Goals as goal

pub returns : goal.returns
returns c = placed_grow
