use Rattle.script.proofs.PhaseLemmas.{phases_in-push}
use Rattle.script.proofs.phases.Phases.push.Goals as goal

pub returns-in_ok-push-clause-ok : goal.returns-in_ok-push-clause-ok
returns-in_ok-push-clause-ok c =
    phases_in-push c.self.inside.ended.items c.self.inside.begun c.in-Some.steps c.push.new.self.items c.args.step c.args.self.now c.in-Some.is c.self.view_is c.in_ok-push.ensures.items
