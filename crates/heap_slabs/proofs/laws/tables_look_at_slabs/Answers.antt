use Rattle.heap_slabs.proofs.LawLemmas.{looks_at_slabs}
use Rattle.heap_slabs.proofs.laws.tables_look_at_slabs.Goals as goal

pub returns : goal.returns
returns c = looks_at_slabs
