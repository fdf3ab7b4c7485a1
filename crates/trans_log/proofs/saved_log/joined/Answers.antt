use Rattle.trans_log.proofs.SavedLogLemmas.{joined-parts}
use Rattle.trans_log.proofs.saved_log.joined.Goals as goal

pub returns : goal.returns
returns c =
    joined-parts c.args.front.now c.args.back.now c.args.start c.args.end c.min.result c.min-2.result c.saturating_sub.result c.saturating_sub-2.result c.in_ok-text.text _
    c.requires.order c.requires.within c.min.ensures c.min-2.ensures c.saturating_sub.ensures c.saturating_sub-2.ensures c.in_ok-text.ensures c.in_ok-push_slice.ensures.ok
