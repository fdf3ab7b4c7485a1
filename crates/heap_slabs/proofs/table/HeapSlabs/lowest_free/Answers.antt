use Rattle.std.proofs.Common.{get_or}
use Rattle.heap_slabs.proofs.FreeLemmas.{lowest_told, none_free}
use Rattle.heap_slabs.proofs.StandingLemmas.{Contains-at, no_standing}
use Rattle.heap_slabs.proofs.table.HeapSlabs.lowest_free.Goals as goal

pub returns-in_err-index : goal.returns-in_err-index
returns-in_err-index c =
    let none = rw c.slabs-slabs.ensures.slabs at c.in_err-index.ensures in
    rw (c.from_residual.ensures, ← c.self.view_is) (λ setting state header is tells. none_free setting state _ is c.args.cache none)

pub returns : goal.returns
returns c =
    let at = rw c.slabs-slabs.ensures.slabs at c.in_ok-index.ensures in
    let first = rw c.slabs-slabs.ensures.slabs at c.first_free.ensures in
    let slabs = c.self.inside.slabs.slabs in
    rw (← c.self.view_is) (λ setting state header is tells.
    lowest_told setting state _ is c.args.cache c.args.live.now.buffers tells (get_or slabs c.in_ok-index.index no_standing) c.first_free.result
    (Contains-at slabs c.in_ok-index.index no_standing at.0) c.self.invariant.slabs (at.1 no_standing) first)
