use Rattle.std.proofs.Common.{◌≡◌, ◌≤◌, length, take}
use Rattle.plain_heap.specs.State.{state_of}
use Rattle.yardstick.specs.Kept.{state_kept}
use Rattle.yardstick.proofs.ask.kept_after.Given as goal

abbrev pub invariant-loop-entry : goal.invariant-loop-entry
invariant-loop-entry l = record {
  few : length l.kept.grown.items ≤ l.entry-index;
  state : state_kept l.setting l.kept ≡ state_of l.setting (take l.entry-index l.entries);
}
