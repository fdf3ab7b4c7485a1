use Rattle.std.proofs.Common.{ap}
use Rattle.script.specs.Plan.{Plan}
use Rattle.script.specs.Fields.{slot}
use Rattle.script.specs.Reading.{itself}
use Rattle.script.proofs.GivesLemmas.{Gives-one}
use Rattle.script.proofs.draft.Draft.read_lone_slot.Goals as goal

pub returns : goal.returns
returns c =
    let version = ap (λ (plan : Plan). plan.header.version) c.self.view_is in
    let first = rw version at c.read_slot-slot.ensures in
    rw c.in-Some.ensures (Gives-one itself c.args.self.now.header slot c.in-Some.slot.now c.in-Some.frames _ _ _ _ _ first c.read_stack-stack.ensures c.both.ensures)
