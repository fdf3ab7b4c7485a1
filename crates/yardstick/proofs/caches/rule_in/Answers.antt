use Rattle.yardstick.proofs.CachesLemmas.{shape_of_rule}
use Rattle.yardstick.proofs.caches.rule_in.Goals as goal

pub returns-clause-sound : goal.returns-clause-sound
returns-clause-sound c =
    shape_of_rule c.header.result.now c.as_slice.result.now c.args.cache c.rule_of.result.size c.rule_of.result.align c.header.ensures.rules
    c.as_slice.ensures c.rule_of.ensures.size c.rule_of.ensures.align
