use Rattle.std.proofs.Common.{◌∙◌, get_or}
use Rattle.heap_slabs.proofs.StandingLemmas.{Contains-at, no_standing}
use Rattle.heap_slabs.proofs.StateLemmas.{found_placed, none_placed}
use Rattle.heap_slabs.proofs.table.HeapSlabs.chunk_at.Goals as goal

pub returns-in_err-place-clause-placed : goal.returns-in_err-place-clause-placed
returns-in_err-place-clause-placed c = rw (← c.self.view_is) (λ setting state header is. c.from_residual.ensures ∙ none_placed setting state _ is c.args.address c.in_err-place.ensures)

pub returns-clause-placed : goal.returns-clause-placed
returns-clause-placed c =
    let at = c.in_ok-place.ensures in
    let slabs = c.self.inside.slabs.slabs in
    rw (c.slabs.ensures.slabs, ← c.self.view_is) (λ setting state header is.
    found_placed setting state _ is c.args.address c.in_ok-place.place.index (get_or slabs c.in_ok-place.place.slab no_standing) header c.self.invariant.slabs
    (Contains-at slabs c.in_ok-place.place.slab no_standing at.0) (at.1 no_standing))
