use Rattle.std.proofs.Common.{◌≡◌, ◌∷◌, ◌∙◌}
use Rattle.std.proofs.lemmas.Result.{on_ok_weaker}
use Rattle.plain_heap.specs.State.{handed_chunk}
use Rattle.yardstick.specs.declared.write.Write.TheVariants.{Stored}
use Rattle.yardstick.specs.Kept.{state_kept}
use Rattle.yardstick.proofs.StepsLemmas.{handed_to_cache, stored_chunk}
use Rattle.yardstick.proofs.kept.Kept.write_handed.Goals as goal

pub returns : goal.returns
returns c =
    let setting = c.args.setting.now in
    let kept = c.args.self.now in
    let held = c.args.held in
    on_ok_weaker c.put_first-2.result
    (λ (after : c.put_first-2.new.items.items ≡ Stored c.from-at.result c.in_ok-bytes.bytes ∷ kept.writes.items).
    stored_chunk setting kept c.deref.result.now c.put_first-2.new.items.items c.args.address c.from-at.result c.number_of-number.result c.cache.result
    c.in-Some.slab c.in_ok-bytes.bytes (λ cache number. handed_chunk setting cache number held.size c.args.zero) c.from-at.ensures c.deref.ensures.value
    c.in-Some.ensures.value c.number_of-number.ensures c.cache.ensures c.in_ok-bytes.ensures after
    ∙ handed_to_cache setting (state_kept setting kept) c.args.address held c.args.zero c.is_none.result c.is_none.ensures c.if-is_none.false)
    c.put_first-2.ensures
