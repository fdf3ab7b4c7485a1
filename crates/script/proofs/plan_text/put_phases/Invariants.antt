use Rattle.std.proofs.Common.{◌≡◌, ◌++◌, take}
use Rattle.std.specs.List.{flat_map}
use Rattle.umem_base.specs.BoundedVec.{BoundedVec}
use Rattle.script.specs.declared.tree.Step.{Step}
use Rattle.script.specs.Plan.{turns_of}
use Rattle.script.specs.PlanText.{phase_text}
use Rattle.script.proofs.plan_text.put_phases.Given as goal

abbrev pub invariant-loop-phase : goal.invariant-loop-phase
invariant-loop-phase l = l.out ≡ l.initial.out ++ flat_map (λ (phase : BoundedVec Step). phase_text l.caches (turns_of phase)) (take l.phase-index l.phases)
