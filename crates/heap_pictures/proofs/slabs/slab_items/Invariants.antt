use Rattle.std.proofs.Common.{◌≡◌, ◌≤◌, length}
use Rattle.std.specs.Prelude.{map}
use Rattle.std.specs.List.{range_with_len}
use Rattle.heap_ledger.specs.Ledger.{run_setting, run_state}
use Rattle.heap_pictures.specs.Drawn.{slab_drawn_at}
use Rattle.heap_pictures.proofs.slabs.slab_items.Given as goal

abbrev pub invariant-loop-index : goal.invariant-loop-index
invariant-loop-index l = record {
  made : l.items.items ≡ map (slab_drawn_at (run_setting l.accounts) (run_state l.accounts) l.standing l.lists) (range_with_len 0 l.index);
  within : l.index ≤ length l.standing;
}
