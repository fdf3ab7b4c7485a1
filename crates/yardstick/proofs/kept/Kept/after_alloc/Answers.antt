use Rattle.std.proofs.Common.{◌≡◌, ap, ◌∙◌}
use Rattle.std.proofs.lemmas.Result.{on_ok_weaker}
use Rattle.plain_heap.specs.Setting.{Setting}
use Rattle.plain_heap.specs.State.{State, with_slot}
use Rattle.yardstick.specs.Kept.{state_kept}
use Rattle.yardstick.proofs.kept.Kept.after_alloc.Goals as goal

pub returns-in_ok-hand_out-in-At : goal.returns-in_ok-hand_out-in-At
returns-in_ok-hand_out-in-At c =
    rw c.in-At.is (on_ok_weaker c.set_slot.result
    (λ (after : (setting : Setting) → state_kept setting c.set_slot.new.self ≡ with_slot (state_kept setting c.hand_out.new.self) c.args.thread c.args.slot c.in-At.address).
    after c.args.setting.now ∙ ap (λ (state : State). with_slot state c.args.thread c.args.slot c.in-At.address) c.in_ok-hand_out-in-At.ensures)
    c.set_slot.ensures)
