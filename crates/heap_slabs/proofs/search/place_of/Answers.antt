use Rattle.std.proofs.Common.{◌-◌, arith}
use Rattle.heap_slabs.proofs.StandingLemmas.{none_at, none_below}
use Rattle.heap_slabs.proofs.search.place_of.Goals as goal

pub returns-then-count-eq0 : goal.returns-then-count-eq0
returns-then-count-eq0 c = none_below c.args.slabs.now c.args.address c.requires (λ k d le lt. c.count_to-count.ensures.behind k d (omega arith) lt)

pub returns-in-None : goal.returns-in-None
returns-in-None c =
    let i = c.count_to-count.result - 1 in
    none_at c.args.slabs.now c.args.address i _ c.requires (omega (arith, c.count_to-count.ensures.within)) c.in-None.ensures
    (λ d. c.count_to-count.ensures.before i d (omega arith)) (λ k d le lt. c.count_to-count.ensures.behind k d (omega arith) lt)
