use Rattle.std.proofs.Common.{◌≡◌, ◌∷◌}
use Rattle.std.proofs.lemmas.Result.{on_ok_weaker}
use Rattle.plain_heap.specs.State.{freed_chunk}
use Rattle.yardstick.specs.declared.write.Write.TheVariants.{Stored}
use Rattle.yardstick.proofs.StepsLemmas.{stored_chunk}
use Rattle.yardstick.proofs.kept.Kept.write_freed.Goals as goal

pub returns : goal.returns
returns c =
    let setting = c.args.setting.now in
    let kept = c.args.self.now in
    on_ok_weaker c.put_first.result
    (λ (after : c.put_first.new.items.items ≡ Stored c.from-at.result c.in_ok-bytes.bytes ∷ kept.writes.items).
    stored_chunk setting kept c.deref.result.now c.put_first.new.items.items c.args.address c.from-at.result c.number_of-number.result c.cache.result
    c.in-Some.slab c.in_ok-bytes.bytes (freed_chunk setting) c.from-at.ensures c.deref.ensures.value c.in-Some.ensures.value c.number_of-number.ensures
    c.cache.ensures c.in_ok-bytes.ensures after)
    c.put_first.ensures
