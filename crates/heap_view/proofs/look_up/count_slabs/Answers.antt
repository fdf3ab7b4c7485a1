use Rattle.std.proofs.Common.{leb, leb-true, leb-false, arith, rules}
use Rattle.std.proofs.lemmas.List.Sorted.{IsPartitionPoint-from_clause, IsPartitionedBy-leb}
use Rattle.core_format.specs.declared.items.SlabItem.{SlabItem}
use Rattle.heap_view.proofs.look_up.count_slabs.Goals as goal

pub returns : goal.returns
returns c =
    let parted = IsPartitionedBy-leb (λ (s : SlabItem). s.base) c.args.slabs.now c.args.address c.requires in
    let point = IsPartitionPoint-from_clause (λ (s : SlabItem). leb s.base c.args.address) c.args.slabs.now c.partition_point.result c.partition_point.ensures.partitioned parted (λ a r q k. search rules) in
    record {
      within = c.partition_point.ensures.bound;
      below = λ k d lt. leb-true _ _ (point.0 k d (omega arith) lt);
      above = λ k d le lt. leb-false _ _ (point.1 k d le lt);
    }
