use Rattle.std.proofs.Common.{take}
use Rattle.heap_accounts.specs.Reaps.{ClosesSlabs}
use Rattle.heap_accounts.proofs.reap_calls.close_slabs.Given as goal

abbrev pub invariant-loop-slab : goal.invariant-loop-slab
invariant-loop-slab l = ClosesSlabs l.initial.memory l.memory l.slabs (take l.slab-index l.slabs)
