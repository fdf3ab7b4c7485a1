use Rattle.findleaks.proofs.ChainsLemmas.{unpointed_leaked}
use Rattle.findleaks.proofs.laws.what_no_word_points_to_is_leaked.Goals as goal

pub returns : goal.returns
returns c = unpointed_leaked
