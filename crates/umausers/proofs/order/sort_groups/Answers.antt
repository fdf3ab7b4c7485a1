use Rattle.std.proofs.Common.{is_lt, rules}
use Rattle.std.proofs.lemmas.List.Sorted.{answers_always}
use Rattle.umausers.specs.Groups.{group_cmp}
use Rattle.umausers.proofs.GroupLemmas.{group_ranks}
use Rattle.umausers.proofs.order.sort_groups.Goals as goal

pub returns-clause-sorted : goal.returns-clause-sorted
returns-clause-sorted c =
    c.in_ok-sort_by.ensures.sorted (λ x y. is_lt (group_cmp x y)) group_ranks (answers_always _ _ _ (λ f a r g h. search rules))
