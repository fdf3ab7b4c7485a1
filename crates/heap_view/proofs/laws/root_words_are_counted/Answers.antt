use Rattle.heap_view.proofs.BytesLemmas.{root_words_count}
use Rattle.heap_view.proofs.laws.root_words_are_counted.Goals as goal

pub returns : goal.returns
returns c = root_words_count
