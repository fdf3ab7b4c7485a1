use Rattle.heap_view.proofs.BuffersLemmas.{buffers_in_order, free_in_order}
use Rattle.heap_view.proofs.laws.buffers_are_in_order.Goals as goal

pub returns-clause-allocated : goal.returns-clause-allocated
returns-clause-allocated c = buffers_in_order

pub returns-clause-free : goal.returns-clause-free
returns-clause-free c = free_in_order
