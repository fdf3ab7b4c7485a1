use Rattle.heap_accounts.proofs.PlacingLemmas.{legal_at_rest}
use Rattle.heap_accounts.proofs.laws.legal_histories_are_at_rest.Goals as goal

pub returns : goal.returns
returns c = legal_at_rest
