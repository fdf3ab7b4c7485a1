use Rattle.script.specs.Plan.{turns_of}
use Rattle.script.specs.PlanText.{HasCaches}
use Rattle.script.proofs.TextLemmas.{each_mapped}
use Rattle.script.proofs.plan_text.put_phases.Goals as goal

pub put_phase-requires : goal.put_phase-requires
put_phase-requires c =
    rw c.as_slice.ensures
    (each_mapped (HasCaches c.args.caches.now) turns_of c.args.phases.now c.loop-phase.phase-index c.phase-item.result c.requires c.loop-phase-test.true c.phase-item.is)
