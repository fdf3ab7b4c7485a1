use Rattle.findleaks.proofs.ChainsLemmas.{all_leaked}
use Rattle.findleaks.proofs.laws.without_pointers_in_roots_all_is_leaked.Goals as goal

pub returns : goal.returns
returns c = all_leaked
