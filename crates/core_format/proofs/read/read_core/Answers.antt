use Rattle.std.proofs.Common.{arith, rules}
use Rattle.std.proofs.lemmas.List.{get_or_default}
use Rattle.core_format.specs.Cores.{core_of}
use Rattle.core_format.proofs.read.read_core.Goals as goal

pub returns-clause-meets : goal.returns-clause-meets
unfolding core_of
returns-clause-meets c = (c.args.bytes.now, λ k d lt. omega (arith, get_or_default c.args.bytes.now k 0 d lt, c.type_inv.bytes k), search rules)
