-- the words of the first buffers that were found are followed, each by one step
use Rattle.std.proofs.Common.{◌≡◌, ◌+◌, ◌-◌, length, take}
use Rattle.std.specs.List.{sum_by}
use Rattle.heap_view.specs.Buffers.{buffers_of}
use Rattle.findleaks.specs.Follow.{IsSearched, words_of_index}
use Rattle.findleaks.proofs.follow.spread.Given as goal

abbrev pub invariant-loop-next : goal.invariant-loop-next
invariant-loop-next g l = record {
  searched : IsSearched l.view l.initial.found l.found l.next;
  counted : l.steps ≡ l.initial.steps + sum_by (words_of_index (buffers_of l.view)) (take l.next l.found.order);
}

abbrev pub decreases-loop-next : goal.decreases-loop-next
decreases-loop-next g l = length (buffers_of l.view) - l.next
