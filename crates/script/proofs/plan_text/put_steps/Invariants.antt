use Rattle.std.proofs.Common.{◌≡◌, ◌++◌, take}
use Rattle.std.specs.List.{flat_map}
use Rattle.script.specs.PlanText.{step_text}
use Rattle.script.proofs.plan_text.put_steps.Given as goal

abbrev pub invariant-loop-step : goal.invariant-loop-step
invariant-loop-step l = l.out ≡ l.initial.out ++ flat_map (step_text l.caches) (take l.step-index l.steps)
