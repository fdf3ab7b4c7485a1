use Rattle.std.proofs.Common.{◌≡◌}
use Rattle.std.specs.List.{flat_map, range_with_len}
use Rattle.heap_ledger.specs.Ledger.{run_state}
use Rattle.heap_books.specs.InLists.{free_at}
use Rattle.heap_books.proofs.free_lists.free_list.Given as goal

abbrev pub invariant-loop-index : goal.invariant-loop-index
invariant-loop-index l = l.chunks.items ≡ flat_map (free_at (run_state l.accounts) l.slab) (range_with_len 0 l.index)
