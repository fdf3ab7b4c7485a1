use Rattle.findleaks.proofs.ChainsLemmas.{leaked_stays}
use Rattle.findleaks.proofs.laws.more_root_words_never_leak_more.Goals as goal

pub returns : goal.returns
returns c = leaked_stays
