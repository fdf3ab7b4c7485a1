use Rattle.yardstick.proofs.PagesLemmas.{taken_by_large, taken_by_slab}
use Rattle.yardstick.proofs.pages.is_taken.Goals as goal

pub returns-then-is_in_any_slab : goal.returns-then-is_in_any_slab
returns-then-is_in_any_slab c =
    let kept = c.args.kept.now in
    let in_slab = rw c.deref.ensures.value at c.is_in_any_slab.ensures in
    taken_by_slab c.args.setting.now kept.live.items kept.slabs.items c.args.address c.is_in_any_slab.result in_slab c.if-is_in_any_slab.true

pub returns-else-is_in_any_slab : goal.returns-else-is_in_any_slab
returns-else-is_in_any_slab c =
    let kept = c.args.kept.now in
    let in_slab = rw c.deref.ensures.value at c.is_in_any_slab.ensures in
    let in_large = rw c.deref-else-is_in_any_slab.ensures.value at c.is_in_any_large.ensures in
    taken_by_large c.args.setting.now kept.live.items kept.slabs.items c.args.address c.is_in_any_slab.result c.is_in_any_large.result
    in_slab c.if-is_in_any_slab.false in_large
