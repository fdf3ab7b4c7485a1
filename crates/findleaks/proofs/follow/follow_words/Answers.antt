use Rattle.std.proofs.Common.{arith, refl}
use Rattle.heap_view.specs.Buffers.{buffers_of}
use Rattle.findleaks.proofs.FoundLemmas.{followed_word}
use Rattle.findleaks.proofs.follow.follow_words.Goals as goal

pub loop-word-preserved : goal.loop-word-preserved
loop-word-preserved g c = record {
  found = followed_word (buffers_of c.args.view.now) c.args.found.now c.loop-word.found c.follow_word.new.found c.args.words.now c.loop-word.word-index _ c.loop-word.invariant.found c.in_ok-follow_word.ensures.found refl c.loop-word-test.true;
  consistent = c.in_ok-follow_word.ensures.consistent;
  counted = omega (arith, c.loop-word.invariant.counted, c.follow_word.ensures.step);
}
