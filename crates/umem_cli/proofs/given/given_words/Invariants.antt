use Rattle.umem_cli.proofs.WordsLemmas.{AreFirst}
use Rattle.umem_cli.proofs.given.given_words.Given as goal

abbrev pub invariant-loop-index : goal.invariant-loop-index
invariant-loop-index g l = AreFirst (g.W.Words.words l.device) l.index l.given.items
