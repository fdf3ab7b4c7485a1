use Rattle.std.proofs.Common.{◌≡◌, take}
use Rattle.std.specs.List.{filter_map}
use Rattle.heap_ledger.specs.Ledger.{run_state}
use Rattle.heap_pictures.specs.Drawn.{large_drawn}
use Rattle.heap_pictures.proofs.large.large_items.Given as goal

abbrev pub invariant-loop-span : goal.invariant-loop-span
invariant-loop-span l = l.items.items ≡ filter_map (large_drawn (run_state l.accounts)) (take l.span-index l.span-items)
