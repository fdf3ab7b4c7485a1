use Rattle.heap_accounts.proofs.PlacingLemmas.{reaps_change}
use Rattle.heap_accounts.proofs.laws.reaps_change_places.Goals as goal

pub returns : goal.returns
returns c = reaps_change
