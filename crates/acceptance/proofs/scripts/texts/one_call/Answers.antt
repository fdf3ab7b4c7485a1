use Rattle.std.proofs.Common.{◌≡◌, [], ◌∷◌, List, ℕ, ◌∙◌}
use Rattle.umem_base.specs.BoundedVec.{BoundedVec}
use Rattle.case_table.specs.declared.cache_def.CacheDef.{CacheDef}
use Rattle.script.specs.declared.tree.Step.{Step}
use Rattle.script.specs.Plan.{plan_of}
use Rattle.script.specs.PlanText.{HasAllCaches, HasCache}
use Rattle.acceptance.proofs.scripts.texts.one_call.Goals as goal

has_cache : (version cpus threads : ℕ) (caches : List CacheDef) (phases : List (BoundedVec Step)) (phase : BoundedVec Step) (def : CacheDef) (step : Step) → caches ≡ def ∷ [] → phases ≡ phase ∷ [] → phase.items ≡ step ∷ []
    → HasCache (def ∷ []) step.op → HasAllCaches (plan_of (record { header = record { version = version; cpus = cpus; threads = threads; caches = caches }; phases = phases }))
has_cache version cpus threads caches phases phase def step a b d h = rw (a, b, d) ((h, tt), tt)

pub returns : goal.returns
returns c =
    has_cache 2 4 12 c.new.result c.new-2.result c.from_vec.result c.args.def c.args.step (c.new.ensures ∙ c.in_ok-caches.ensures.items) (c.new-2.ensures ∙ c.in_ok-phases.ensures.items) (c.from_vec.ensures.items ∙ c.in_ok-steps.ensures.items) c.requires
