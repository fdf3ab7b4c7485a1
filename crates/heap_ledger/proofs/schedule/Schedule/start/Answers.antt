use Rattle.std.proofs.Common.{◌≡◌, ◌∙◌, map, take, ap, arith}
use Rattle.std.specs.Prelude.{reverse}
use Rattle.std.proofs.lemmas.List.{reverse-reverse, take_all}
use Rattle.script.specs.Plan.{turns_of}
use Rattle.script.specs.declared.tree.Step.{Step}
use Rattle.umem_base.specs.BoundedVec.{BoundedVec}
use Rattle.heap_ledger.specs.Schedule.{by_thread}
use Rattle.heap_ledger.proofs.StartLemmas.{first_settled}
use Rattle.heap_ledger.proofs.schedule.Schedule.start.Goals as goal

pub returns : goal.returns
returns c =
    let deal = λ (phase : BoundedVec Step). by_thread c.args.script.now.header.threads (turns_of phase) in
    let whole : take c.loop-phase.phase-index c.as_slice-phases.result.now ≡ c.as_slice-phases.result.now = take_all c.loop-phase.phase-index c.as_slice-phases.result.now (omega (arith, c.loop-phase-test.false)) in
    let later =
    ap reverse c.reverse.ensures.items ∙ reverse-reverse c.loop-phase.later.items ∙ c.loop-phase.invariant.later
    ∙ ap (map deal) whole ∙ ap (map deal) c.as_slice-phases.ensures
    in
    c.settle.ensures ∙ first_settled c.args.script.now _ _ _ c.loop-phase.invariant.made c.none.ensures later
