use Rattle.std.proofs.Common.{leb, leb-true, leb-false, arith, rules}
use Rattle.std.proofs.lemmas.List.Sorted.{IsPartitionPoint-from_clause, IsPartitionedBy-leb}
use Rattle.addr_space.specs.MappedRun.{MappedRun}
use Rattle.addr_space.proofs.SpaceLemmas.{base_le}
use Rattle.addr_space.proofs.place.count_from_below.Goals as goal

pub returns : goal.returns
returns c =
    let parted = IsPartitionedBy-leb (λ (m : MappedRun). m.base) _ c.args.address (λ i j d le lt. base_le c.args.runs.now i j d d c.requires le lt) in
    let point = IsPartitionPoint-from_clause (λ (m : MappedRun). leb m.base c.args.address) _ _ c.partition_point.ensures.partitioned parted (λ a r q k. search rules) in
    record {
      within = c.partition_point.ensures.bound;
      before = λ k d lt. leb-true _ _ (point.0 k d (omega arith) lt);
      behind = λ k d le lt. leb-false _ _ (point.1 k d le lt);
    }
