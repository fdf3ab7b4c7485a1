use Rattle.std.proofs.Common.{◌<◌, ◌∙◌}
use Rattle.std.specs.Prelude.{length}
use Rattle.std.proofs.lemmas.List.{get_or_default}
use Rattle.heap_slabs.specs.HeapSlabs.{no_slabs}
use Rattle.heap_slabs.proofs.ReapLemmas.{next_is}
use Rattle.heap_slabs.proofs.table.HeapSlabs.next_slab.Goals as goal

pub returns-clause-next : goal.returns-clause-next
returns-clause-next c =
    let known : c.args.cache < length c.self.inside.caches.items = rw (← c.self.view_is) at c.requires in
    let its = c.index-its.result.now in
    rw (← c.self.view_is) (λ setting state header is. next_is setting state _ c.args.cache its is known (c.index-its.ensures ∙ get_or_default c.self.inside.caches.items c.args.cache its no_slabs known))
