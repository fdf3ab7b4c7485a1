use Rattle.std.proofs.Common.{not, eqb, ap, rules}
use Rattle.std.proofs.lemmas.Fn.{filter_same}
use Rattle.plain_heap.specs.State.{HeapSlab}
use Rattle.yardstick.specs.Kept.{state_kept}
use Rattle.yardstick.proofs.StepsLemmas.{with_slabs_of}
use Rattle.yardstick.proofs.kept.Kept.after_shrink.Goals as goal

pub returns : goal.returns
returns c setting =
    let kept = c.args.self.now in
    let left = filter_same _ (λ (slab : HeapSlab). not (eqb slab.base c.args.base)) _ (λ x b f' h. search rules) kept.slabs.items c.retain.new.self.items c.retain.ensures.filtered in
    ap (with_slabs_of (state_kept setting kept)) left
