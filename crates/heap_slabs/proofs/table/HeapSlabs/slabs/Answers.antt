use Rattle.std.proofs.Common.{◌<◌}
use Rattle.heap_ledger.specs.declared.slab_at.SlabAt.{SlabAt}
use Rattle.plain_heap.proofs.PairsLemmas.{AllPairs-map}
use Rattle.heap_slabs.specs.Standing.{as_slab_at}
use Rattle.heap_slabs.proofs.StandingLemmas.{bases_rise}
use Rattle.heap_slabs.proofs.StateLemmas.{those_told}
use Rattle.heap_slabs.proofs.table.HeapSlabs.slabs.Goals as goal

pub returns-clause-rising : goal.returns-clause-rising
returns-clause-rising c =
    let slabs = c.self.inside.slabs.slabs in
    rw c.places.ensures (AllPairs-map (λ (a b : SlabAt). a.base < b.base) as_slab_at slabs (bases_rise slabs c.self.invariant.slabs))

pub returns-clause-exactly : goal.returns-clause-exactly
returns-clause-exactly c = rw (c.places.ensures, ← c.self.view_is) (λ setting state header is. those_told setting state _ is)
