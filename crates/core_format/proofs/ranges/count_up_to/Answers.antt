use Rattle.std.proofs.Common.{◌≡◌, true, false, leb, leb-true, leb-false, arith, rules}
use Rattle.std.specs.List.Sorted.{IsPartitionPoint}
use Rattle.std.proofs.lemmas.List.Sorted.{IsPartitionPoint-from_clause, IsPartitionedBy-leb}
use Rattle.core_format.specs.declared.range.Range.{Range}
use Rattle.core_format.proofs.RangeLemmas.{past_rises}
use Rattle.core_format.proofs.ranges.count_up_to.Goals as goal

point : (c : goal.After-partition_point) → IsPartitionPoint (λ (r : Range). leb r.past c.args.number ≡ true) (λ (r : Range). leb r.past c.args.number ≡ false) c.args.ranges.now c.partition_point.result
point c =
    let parted = IsPartitionedBy-leb (λ (r : Range). r.past) _ c.args.number (λ i j d le lt. past_rises c.args.ranges.now i j d c.requires le lt) in
    IsPartitionPoint-from_clause (λ (r : Range). leb r.past c.args.number) _ _ c.partition_point.ensures.partitioned parted (λ a r q k. search rules)

pub returns-clause-below : goal.returns-clause-below
returns-clause-below c = λ k d lt. leb-true _ _ ((point c).0 k d (omega arith) lt)

pub returns-clause-above : goal.returns-clause-above
returns-clause-above c = λ k d le lt. leb-false _ _ ((point c).1 k d le lt)
