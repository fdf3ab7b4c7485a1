use Rattle.std.proofs.Common.{get_or}
use Rattle.heap_slabs.proofs.StandingLemmas.{Contains-at, no_standing}
use Rattle.heap_slabs.proofs.StateLemmas.{found_numbered, none_numbered}
use Rattle.heap_slabs.proofs.table.HeapSlabs.chunk.Goals as goal

pub returns-in_err-place-clause-numbered : goal.returns-in_err-place-clause-numbered
returns-in_err-place-clause-numbered c = rw (c.from_residual.ensures, ← c.self.view_is) (λ setting state header is. none_numbered setting state _ is c.args.number c.in_err-place.ensures)

pub returns-clause-numbered : goal.returns-clause-numbered
returns-clause-numbered c =
    let at = c.in_ok-place.ensures in
    let slabs = c.self.inside.slabs.slabs in
    let has_start = rw c.slabs.ensures.slabs at c.address_in-address.ensures in
    rw (c.slabs.ensures.slabs, ← c.self.view_is) (λ setting state header is.
    found_numbered setting state _ is c.args.number c.address_in-address.result c.in_ok-place.place.index (get_or slabs c.in_ok-place.place.slab no_standing)
    (Contains-at slabs c.in_ok-place.place.slab no_standing at.0) (at.1 no_standing) has_start)
