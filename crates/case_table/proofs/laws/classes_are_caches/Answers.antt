use Rattle.std.proofs.Common.{refl}
use Rattle.case_table.proofs.SizesLemmas.{size_of-some, size_of-small, size_of-words}
use Rattle.case_table.proofs.laws.classes_are_caches.Goals as goal

pub returns-clause-shape : goal.returns-clause-shape
returns-clause-shape c = λ class lt. record { some = size_of-some class lt; fits = size_of-small class; aligned = refl }

pub returns-clause-content : goal.returns-clause-content
returns-clause-content c = size_of-words
