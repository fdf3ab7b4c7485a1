use Rattle.script.specs.Plan.{Turn, turn_of}
use Rattle.script.specs.PlanText.{HasCache}
use Rattle.script.proofs.TextLemmas.{each_mapped}
use Rattle.script.proofs.plan_text.put_steps.Goals as goal

pub put_step-requires : goal.put_step-requires
put_step-requires c =
    each_mapped (λ (turn : Turn). HasCache c.args.caches.now turn.call.op) turn_of c.args.steps.now c.loop-step.step-index c.step-item.result c.requires c.loop-step-test.true c.step-item.is
