use Rattle.std.proofs.Common.{◌∙◌, rules, tests}
use Rattle.std.proofs.lemmas.Iterator.{YieldsList-from_slice}
use Rattle.std.proofs.lemmas.Iterator.Search.{find_from_yields_List}
use Rattle.plain_heap.specs.State.{HeapSlab, begins_chunk}
use Rattle.yardstick.proofs.slabs.slab_at.Goals as goal

pub returns-clause-value : goal.returns-clause-value
returns-clause-value c =
    c.copied.ensures
    ∙ find_from_yields_List (λ (slab : HeapSlab). begins_chunk c.args.setting.now slab c.args.address) _ _ c.find.result c.find.ensures.ran
    (YieldsList-from_slice c.args.slabs.now cc) (λ x b q k. search (rules, tests))
