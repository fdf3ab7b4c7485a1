use Rattle.std.proofs.lemmas.Result.{on_ok_weaker}
use Rattle.script.proofs.TextLemmas.{phase_put}
use Rattle.script.proofs.plan_text.put_phase.Goals as goal

pub returns : goal.returns
returns c =
    on_ok_weaker c.put_steps.result (λ put. phase_put c.args.out.now c.push_slice.new.self c.put_steps.new.out c.args.caches.now c.args.steps.now c.in_ok-push_slice.ensures.ok put) c.put_steps.ensures
