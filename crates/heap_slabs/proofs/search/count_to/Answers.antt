use Rattle.std.proofs.Common.{leb, leb-true, leb-false, arith, rules}
use Rattle.std.proofs.lemmas.List.Sorted.{IsPartitionPoint-from_clause, IsPartitionedBy-leb}
use Rattle.heap_slabs.specs.declared.standing.Standing.{Standing}
use Rattle.heap_slabs.proofs.StandingLemmas.{base_le}
use Rattle.heap_slabs.proofs.search.count_to.Goals as goal

pub returns : goal.returns
returns c =
    let parted = IsPartitionedBy-leb (λ (s : Standing). s.base) c.args.slabs.now c.args.address (λ i j d le lt. base_le c.args.slabs.now i j d c.requires le lt) in
    let point = IsPartitionPoint-from_clause (λ (s : Standing). leb s.base c.args.address) c.args.slabs.now c.partition_point.result c.partition_point.ensures.partitioned parted (λ a r q k. search rules) in
    record {
      within = c.partition_point.ensures.bound;
      before = λ k d lt. leb-true _ _ (point.0 k d (omega arith) lt);
      behind = λ k d le lt. leb-false _ _ (point.1 k d le lt);
    }
