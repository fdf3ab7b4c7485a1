-- the words of the segments so far are followed, each by one step
use Rattle.std.proofs.Common.{◌≡◌, ◌+◌, length, take}
use Rattle.heap_view.specs.Buffers.{buffers_of}
use Rattle.heap_view.specs.Memory.{own_words}
use Rattle.findleaks.specs.Found.{IsConsistent, with_words}
use Rattle.findleaks.proofs.follow.follow_own.Given as goal

abbrev pub invariant-loop-own : goal.invariant-loop-own
invariant-loop-own g l = record {
  found : l.found ≡ with_words (buffers_of l.view) l.initial.found (own_words (take l.own-index l.view.own));
  consistent : IsConsistent (length (buffers_of l.view)) l.found;
  counted : l.steps ≡ l.initial.steps + length (own_words (take l.own-index l.view.own));
}
