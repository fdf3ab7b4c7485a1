use Rattle.std.proofs.Common.{Ok, rules}
use Rattle.std.proofs.lemmas.Iterator.{YieldsList-from_map, items_from_collect}
use Rattle.std.proofs.lemmas.Iterator.Consumers.{YieldsList-at, YieldsList-from_filter, YieldsList-from_rest}
use borrow.Author.Tests.{tests}
use Rattle.umausers.specs.Groups.{group_of, is_asked_for}
use Rattle.umausers.proofs.collect.collect_groups.Goals as goal

pub returns-clause-value : goal.returns-clause-value
returns-clause-value c =
    items_from_collect {E = Unit {0}} (Ok c.in_ok-groups.groups) c.in_ok-groups.ensures.ran
    (YieldsList-from_filter _ (is_asked_for c.args.every)
    (YieldsList-at c.filter.ensures.source
    (YieldsList-from_map _ group_of (YieldsList-at c.map.ensures.source (YieldsList-from_rest c.args.sums.entries c.into_iter.ensures.into_iter_gives.0)) c.map.ensures.closure (λ x r q k. search rules)))
    c.filter.ensures.closure (λ x b q k. search (rules, tests)))
