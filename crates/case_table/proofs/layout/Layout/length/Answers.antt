use Rattle.std.proofs.Common.{arith}
use Rattle.case_table.proofs.RecordLemmas.{sum-small}
use Rattle.case_table.proofs.layout.Layout.length.Goals as goal

pub sum_of-requires : goal.sum_of-requires
sum_of-requires g c = sum-small _ c.self.invariant

pub returns-clause-fits : goal.returns-clause-fits
returns-clause-fits g c = omega (arith, c.sum_of.ensures, sum-small _ c.self.invariant)
