use Rattle.script.proofs.PlanReads.{has_all_caches}
use Rattle.script.proofs.laws.plans_have_their_caches.Goals as goal

pub returns : goal.returns
returns c = has_all_caches
