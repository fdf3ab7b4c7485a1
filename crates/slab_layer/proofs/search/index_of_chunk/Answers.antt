use Rattle.std.proofs.Common.{◌-◌, arith}
use Rattle.slab_layer.proofs.SlabsLemmas.{look_up, foreign_below_first}
use Rattle.slab_layer.proofs.search.index_of_chunk.Goals as goal

pub returns-then-count-eq0 : goal.returns-then-count-eq0
returns-then-count-eq0 c = foreign_below_first c.args.slabs.now c.args.chunk (λ k d le lt. c.count_from_below-count.ensures.behind k d (omega arith) lt)

pub returns : goal.returns
returns c =
    let i = c.count_from_below-count.result - 1 in
    rw (c.then_some.ensures, c.has_chunk.ensures) (look_up c.args.slabs.now i c.args.chunk c.index-slabs-index.result c.requires (omega (arith, c.count_from_below-count.ensures.within)) c.index-slabs-index.is (λ d. c.count_from_below-count.ensures.before i d (omega arith)) (λ k d le lt. c.count_from_below-count.ensures.behind k d (omega arith) lt))
