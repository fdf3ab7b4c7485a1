use Rattle.std.proofs.lemmas.Result.{err_from_is_err_and}
use Rattle.core_format.specs.Items.{next_word_at, words_at}
use Rattle.core_format.proofs.ItemsLemmas.{items_at-done, items_at-more, items_at-told}
use Rattle.core_format.proofs.read_words.words.Goals as goal

pub returns-in_err-word : goal.returns-in_err-word
returns-in_err-word c =
    let p = err_from_is_err_and c.from_residual-in_err-word.result c.from_residual-in_err-word.ensures.1 in
    rw (p.1, p.2) (items_at-told next_word_at c.args.count c.loop.counter c.loop.words.items c.loop.reader c.in_err-word.field-0.0 (words_at c.args.count c.args.reader.now) c.loop-test.true c.in_err-word.ensures c.loop.invariant)

pub loop-preserved : goal.loop-preserved
loop-preserved c =
    items_at-more next_word_at c.args.count c.loop.counter c.loop.words.items c.push.new.self.items c.loop.reader c.word.new.reader c.in_ok-word.word (words_at c.args.count c.args.reader.now) c.loop-test.true c.in_ok-word.ensures c.in_ok-push.ensures.items c.loop.invariant

pub returns : goal.returns
returns c = items_at-done next_word_at c.args.count c.loop.counter c.loop.words.items c.loop.reader (words_at c.args.count c.args.reader.now) c.loop-test.false c.loop.invariant
