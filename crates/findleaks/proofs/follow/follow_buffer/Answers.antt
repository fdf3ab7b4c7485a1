use Rattle.std.proofs.Common.{arith, ap, length, sym, ◌∙◌, drop, List, ℕ, ◌*◌}
use Rattle.byteorder.specs.Endian.{little_number}
use Rattle.heap_view.specs.Buffers.{buffers_of}
use Rattle.heap_view.specs.Memory.{words_in}
use Rattle.findleaks.proofs.FoundLemmas.{followed_word, words_all}
use Rattle.heap_view.proofs.BytesLemmas.{buffer_has_bytes}
use Rattle.findleaks.proofs.WordsLemmas.{length-words_in, word_at}
use Rattle.findleaks.proofs.follow.follow_buffer.Goals as goal

pub word_at-requires : goal.word_at-requires
word_at-requires g c =
    omega (arith, buffer_has_bytes c.args.view.now c.args.buffer.now c.core.ensures.laid_out c.requires.allocated, ap length c.bytes_from-bytes.ensures, c.loop-index-test.true)

pub loop-index-preserved : goal.loop-index-preserved
loop-index-preserved g c = record {
  found = followed_word (buffers_of c.args.view.now) c.args.found.now c.loop-index.found c.follow_word.new.found (words_in c.args.view.now c.args.buffer.now) c.loop-index.index c.word_at.result c.loop-index.invariant.found c.in_ok-follow_word.ensures.found
      (c.word_at.ensures ∙ ap (λ (bytes : List ℕ). little_number 8 (drop (8 * c.loop-index.index) bytes)) c.bytes_from-bytes.ensures ∙ sym (word_at c.args.view.now c.args.buffer.now c.loop-index.index c.loop-index-test.true))
      (omega (arith, length-words_in c.args.view.now c.args.buffer.now, c.loop-index-test.true));
  consistent = c.in_ok-follow_word.ensures.consistent;
  counted = omega (arith, c.loop-index.invariant.counted, c.follow_word.ensures.step);
}

pub returns-clause-found : goal.returns-clause-found
returns-clause-found g c =
    words_all (buffers_of c.args.view.now) c.args.found.now c.loop-index.found (words_in c.args.view.now c.args.buffer.now) c.loop-index.index c.loop-index.invariant.found
    (omega (arith, length-words_in c.args.view.now c.args.buffer.now, c.loop-index-test.false))
