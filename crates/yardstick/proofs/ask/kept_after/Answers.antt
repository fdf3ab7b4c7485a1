use Rattle.std.proofs.Common.{length, ap, arith}
use Rattle.plain_heap.specs.State.{State}
use Rattle.yardstick.proofs.ask.kept_after.Goals as goal

pub loop-entry-init : goal.loop-entry-init
loop-entry-init c =
    let start = c.start-kept.ensures c.args.setting.now in
    record { few = omega (arith, ap (λ (state : State). length state.grown) start); state = start }
