use Rattle.heap_slabs.proofs.LawLemmas.{freed_leaves}
use Rattle.heap_slabs.proofs.laws.freed_large_buffers_leave_the_table.Goals as goal

pub returns : goal.returns
returns c = freed_leaves
