-- the words so far are followed, each by one step
use Rattle.std.proofs.Common.{◌≡◌, ◌+◌, length, take}
use Rattle.heap_view.specs.Buffers.{buffers_of}
use Rattle.findleaks.specs.Found.{IsConsistent, with_words}
use Rattle.findleaks.proofs.follow.follow_words.Given as goal

abbrev pub invariant-loop-word : goal.invariant-loop-word
invariant-loop-word g l = record {
  found : l.found ≡ with_words (buffers_of l.view) l.initial.found (take l.word-index l.words);
  consistent : IsConsistent (length (buffers_of l.view)) l.found;
  counted : l.steps ≡ l.initial.steps + l.word-index;
}
