-- the first words of the buffer are followed, each by one step
use Rattle.std.proofs.Common.{◌≡◌, ◌+◌, length, take}
use Rattle.heap_view.specs.Buffers.{buffers_of}
use Rattle.heap_view.specs.Memory.{words_in}
use Rattle.findleaks.specs.Found.{IsConsistent, with_words}
use Rattle.findleaks.proofs.follow.follow_buffer.Given as goal

abbrev pub invariant-loop-index : goal.invariant-loop-index
invariant-loop-index g l = record {
  found : l.found ≡ with_words (buffers_of l.view) l.initial.found (take l.index (words_in l.view l.buffer));
  consistent : IsConsistent (length (buffers_of l.view)) l.found;
  counted : l.steps ≡ l.initial.steps + l.index;
}
