use Rattle.std.proofs.Common.{◌≡◌, ◌++◌, ◌∷◌, [], List, map, take, ap, sym, ◌∙◌, arith}
use Rattle.heap_ledger.specs.declared.slab_at.SlabAt.{SlabAt}
use Rattle.heap_slabs.specs.Standing.{as_slab_at}
use Rattle.heap_slabs.proofs.StandingLemmas.{no_standing}
use Rattle.heap_slabs.proofs.UnusedLemmas.{listed_more}
use Rattle.heap_slabs.proofs.unused.list_places.Goals as goal

pub loop-slab-preserved : goal.loop-slab-preserved
loop-slab-preserved c =
    let pushed : c.push.new.self.items ≡ c.loop-slab.places.items ++ c.as_slab_at.result ∷ [] = rw c.unwrap.ensures at c.push.ensures.items in (
      pushed ∙ ap (λ (xs : List SlabAt). xs ++ c.as_slab_at.result ∷ []) c.loop-slab.invariant.0
          ∙ ap (λ (x : SlabAt). map as_slab_at (take c.loop-slab.slab-index c.args.slabs.now) ++ x ∷ []) c.as_slab_at.ensures
          ∙ sym (listed_more c.args.slabs.now c.loop-slab.slab-index no_standing c.loop-slab-test.true),
      omega (arith, c.loop-slab.invariant.1, c.push.ensures.capacity),
    )
