use Rattle.std.proofs.Common.{◌≡◌, ◌≤◌}
use Rattle.std.specs.Prelude.{map}
use Rattle.std.specs.List.{range_with_len}
use Rattle.heap_ledger.specs.Ledger.{run_state}
use Rattle.heap_pictures.specs.Items.{own_item}
use Rattle.heap_pictures.proofs.roots.own_items.Given as goal

abbrev pub invariant-loop-thread : goal.invariant-loop-thread
invariant-loop-thread l = record {
  made : l.roots.items ≡ map (own_item (run_state l.accounts).bytes) (range_with_len 0 l.thread);
  within : l.thread ≤ l.accounts.plan.header.threads;
}
