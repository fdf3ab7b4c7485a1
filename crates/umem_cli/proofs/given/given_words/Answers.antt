use Rattle.std.proofs.Common.{◌+◌, arith}
use Rattle.umem_cli.proofs.WordsLemmas.{AreFirst-more}
use Rattle.umem_cli.proofs.given.given_words.Goals as goal

pub loop-index-preserved : goal.loop-index-preserved
loop-index-preserved g c =
    rw c.in_ok-push.ensures.items (AreFirst-more (g.W.Words.words c.args.device.now) c.loop-index.index (c.loop-index.index + 1) c.loop-index.given.items c.in-Some.word (omega arith)
    c.loop-index.invariant (rw c.in-Some.is at c.in_ok-word.ensures))
