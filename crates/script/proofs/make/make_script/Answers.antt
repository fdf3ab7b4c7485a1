use Rattle.std.proofs.Common.{◌∷◌, [], ◌++◌, List, ap, ◌∙◌}
use Rattle.umem_base.specs.BoundedVec.{BoundedVec}
use Rattle.script.specs.declared.tree.Step.{Step}
use Rattle.script.proofs.MadeLemmas.{made_is, made_keeps}
use Rattle.script.proofs.make.make_script.Goals as goal

pub returns-clause-rules : goal.returns-clause-rules
returns-clause-rules c =
    let phases = c.new-3.ensures ∙ c.in_ok-push.ensures.items ∙ ap (λ (ps : List (BoundedVec Step)). ps ++ c.from_vec.result ∷ []) c.new-phases.ensures.items in
    rw (made_is c.new-2.result c.new-3.result c.from_vec.result c.in_ok-steps.steps.items c.args.seed c.args.ops (c.new-2.ensures ∙ c.new.ensures.items) phases c.from_vec.ensures.items c.in_ok-steps.ensures) (made_keeps c.args.seed c.args.ops c.requires)
