use Rattle.std.proofs.Common.{ℕ, List, ap}
use Rattle.script.specs.Plan.{Call}
use Rattle.script.specs.declared.operation.Op.TheVariants.{Reap}
use Rattle.script.proofs.draft.Draft.read_call.Goals as goal

pub returns-in_ok-stack-in-Reap : goal.returns-in_ok-stack-in-Reap
returns-in_ok-stack-in-Reap c =
    let h = c.in_ok-stack-in-Reap.ensures c.args.self.now.header in
    let made : List ℕ → Call = λ frames. record { op = Reap; frames = frames } in
    rw c.in-Reap.is (h.0, ap made h.1)
