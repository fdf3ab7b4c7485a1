use Rattle.umausers.proofs.GroupLemmas.{are_groups}
use Rattle.umausers.proofs.collect.groups.Goals as goal

pub returns : goal.returns
returns c =
    are_groups c.args.view.now c.args.every c.in_ok-sums.sums.entries c.in_ok-groups.groups.items c.sort_groups.new.groups.items c.in_ok-sums.ensures c.in_ok-groups.ensures.unique c.in_ok-groups.ensures.value
    c.in_ok-sort_groups.ensures.permutation c.in_ok-sort_groups.ensures.sorted
