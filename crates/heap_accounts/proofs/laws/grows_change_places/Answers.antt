use Rattle.heap_accounts.proofs.PlacingLemmas.{grows_change}
use Rattle.heap_accounts.proofs.laws.grows_change_places.Goals as goal

pub returns : goal.returns
returns c = grows_change
