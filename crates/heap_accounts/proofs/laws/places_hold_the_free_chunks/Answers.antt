use Rattle.heap_accounts.proofs.HoldLemmas.{places_hold}
use Rattle.heap_accounts.proofs.laws.places_hold_the_free_chunks.Goals as goal

pub returns : goal.returns
returns c = places_hold
