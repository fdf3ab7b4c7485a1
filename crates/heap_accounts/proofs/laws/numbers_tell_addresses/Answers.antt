use Rattle.heap_accounts.proofs.HoldLemmas.{numbers_tell}
use Rattle.heap_accounts.proofs.laws.numbers_tell_addresses.Goals as goal

pub returns : goal.returns
returns c = numbers_tell
