use Rattle.std.proofs.Common.{◌≡◌, ◌<◌, ◌≤◌, ℕ, Some, length, take}
use Rattle.std.specs.List.{slice_get}
use Rattle.plain_heap.specs.declared.entry.Entry.{Entry}
use Rattle.plain_heap.specs.Legal.{IsLegalEntry}
use Rattle.plain_heap.specs.State.{state_of}
use Rattle.yardstick.specs.Kept.{state_kept}
use Rattle.yardstick.proofs.ask.first_illegal_in.Given as goal

abbrev pub invariant-loop-n : goal.invariant-loop-n
invariant-loop-n l = record {
  few : length l.kept.grown.items ≤ l.n;
  state : state_kept l.setting l.kept ≡ state_of l.setting (take l.n l.entries);
  legal : (k : ℕ) (entry : Entry) → k < l.n → slice_get l.entries k ≡ Some entry → IsLegalEntry l.setting l.entries k entry;
}
