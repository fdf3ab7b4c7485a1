use Rattle.heap_slabs.proofs.LawLemmas.{large_leaves}
use Rattle.heap_slabs.proofs.laws.large_buffers_leave_the_table.Goals as goal

pub returns : goal.returns
returns c = large_leaves
