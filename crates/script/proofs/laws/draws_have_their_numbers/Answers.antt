use Rattle.std.proofs.Common.{refl}
use Rattle.script.proofs.laws.draws_have_their_numbers.Goals as goal

pub returns-clause-from_0 : goal.returns-clause-from_0
returns-clause-from_0 c = refl

pub returns-clause-from_1 : goal.returns-clause-from_1
returns-clause-from_1 c = refl
