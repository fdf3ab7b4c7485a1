use Rattle.std.proofs.Common.{refl}
use Rattle.std.proofs.Math.Dec.{lit≤}
use Rattle.case_table.specs.Geometry.{geometry_of}
use Rattle.case_table.specs.Sizes.{class_for, class_sizes, size_of}
use Rattle.acceptance.proofs.heap_parts.kind.Goals as goal

-- all three compute
pub returns-clause-kind : goal.returns-clause-kind
unfolding size_of class_sizes
returns-clause-kind c = record { some = lit≤ tt; small = lit≤ tt; class = λ _. refl }

pub returns-clause-request : goal.returns-clause-request
unfolding class_for class_sizes
returns-clause-request c = record { class = λ _. refl; declared = λ _. refl }

pub returns-clause-numbers : goal.returns-clause-numbers
unfolding geometry_of
returns-clause-numbers c = lit≤ tt
