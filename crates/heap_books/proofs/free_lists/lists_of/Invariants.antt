use Rattle.std.proofs.Common.{◌≡◌, map, take}
use Rattle.heap_ledger.specs.Ledger.{run_state}
use Rattle.heap_books.specs.InLists.{free_list_of}
use Rattle.heap_books.proofs.free_lists.lists_of.Given as goal

abbrev pub invariant-loop-slab : goal.invariant-loop-slab
invariant-loop-slab l = l.lists.items ≡ map (free_list_of (run_state l.accounts)) (take l.slab-index l.slabs)
