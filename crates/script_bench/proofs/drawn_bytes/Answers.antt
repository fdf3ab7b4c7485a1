use Rattle.script.specs.Plan.{plan_of}
use Rattle.script_bench.proofs.drawn_bytes.Goals as goal

pub script_text-requires : goal.script_text-requires
script_text-requires c = c.plans_have_their_caches.ensures (plan_of c.in-Ok.script) c.in-Ok.ensures.rules
