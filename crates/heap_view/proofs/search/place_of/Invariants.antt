use Rattle.std.proofs.Common.{◌-◌, ◌≤◌}
use Rattle.heap_view.proofs.SearchLemmas.{IsSearching}
use Rattle.heap_view.proofs.search.place_of.Given as goal

abbrev pub invariant-loop-low : goal.invariant-loop-low
invariant-loop-low g l = record {
  searching : IsSearching l.buffers l.address l.low l.high (l.steps - l.fn.steps);
  rises : l.fn.steps ≤ l.steps;
}

abbrev pub decreases-loop-low : goal.decreases-loop-low
decreases-loop-low g l = l.high - l.low
