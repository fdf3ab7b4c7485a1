use Rattle.std.proofs.Common.{◌≡◌, ◌-◌}
use Rattle.core_format.specs.Items.{items_at, next_word_at, words_at}
use Rattle.core_format.proofs.read_words.words.Given as goal

abbrev pub invariant-loop : goal.invariant-loop
invariant-loop l = items_at next_word_at (l.count - l.counter) l.words.items l.reader ≡ words_at l.count l.fn.reader
