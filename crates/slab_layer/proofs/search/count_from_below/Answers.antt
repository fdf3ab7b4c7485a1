use Rattle.std.proofs.Common.{◌≡◌, true, false, leb, leb-true, leb-false, arith, rules}
use Rattle.std.specs.List.Sorted.{IsPartitionPoint}
use Rattle.std.proofs.lemmas.List.Sorted.{IsPartitionPoint-from_clause, IsPartitionedBy-leb}
use Rattle.slab_layer.specs.Slab.{Slab}
use Rattle.slab_layer.proofs.SlabsLemmas.{first_le}
use Rattle.slab_layer.proofs.search.count_from_below.Goals as goal

point : (c : goal.After-partition_point) → IsPartitionPoint (λ (s : Slab). leb s.first c.args.chunk ≡ true) (λ (s : Slab). leb s.first c.args.chunk ≡ false) c.args.slabs.now c.partition_point.result
point c =
    let parted = IsPartitionedBy-leb (λ (s : Slab). s.first) _ c.args.chunk (λ i j d le lt. first_le c.args.slabs.now i j d c.requires le lt) in
    IsPartitionPoint-from_clause (λ (s : Slab). leb s.first c.args.chunk) _ _ c.partition_point.ensures.partitioned parted (λ a r q k. search rules)

pub returns : goal.returns
returns c = record {
  within = search rules;
  before = λ k d lt. leb-true _ _ ((point c).0 k d (omega arith) lt);
  behind = λ k d le lt. leb-false _ _ ((point c).1 k d le lt);
}
