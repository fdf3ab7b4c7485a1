use Rattle.heap_accounts.proofs.PlacingLemmas.{answers_change}
use Rattle.heap_accounts.proofs.laws.answers_change_places.Goals as goal

pub returns : goal.returns
returns c = answers_change
