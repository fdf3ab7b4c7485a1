use Rattle.std.proofs.Common.{◌≡◌, ap, ◌∙◌, rules}
use Rattle.std.proofs.lemmas.Result.{on_ok_weaker}
use Rattle.plain_heap.specs.declared.reply.Reply.TheVariants as reply
use Rattle.plain_heap.specs.Setting.{Setting}
use Rattle.plain_heap.specs.State.{State, give_back, with_slot}
use Rattle.yardstick.specs.Kept.{state_kept}
use Rattle.yardstick.proofs.kept.Kept.after_free.Goals as goal

pub returns : goal.returns
returns c =
    let setting = c.args.setting.now in
    let state = state_kept setting c.args.self.now in
    let ok : c.args.reply.now ≡ reply.Ok = search rules in
    rw ok (on_ok_weaker c.set_slot.result
    (λ (after : (s : Setting) → state_kept s c.set_slot.new.self ≡ with_slot (state_kept s c.give_back.new.self) c.args.thread c.args.slot 0).
    after setting
    ∙ ap (λ (s : State). with_slot s c.args.thread c.args.slot 0) (c.in_ok-give_back.ensures ∙ ap (give_back setting state) c.slot_word-word.ensures))
    c.set_slot.ensures)
