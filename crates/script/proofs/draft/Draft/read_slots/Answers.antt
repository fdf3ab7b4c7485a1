use Rattle.std.proofs.Common.{ap}
use Rattle.script.specs.Plan.{Plan}
use Rattle.script.specs.Fields.{slot}
use Rattle.script.specs.Reading.{itself}
use Rattle.script.proofs.GivesLemmas.{Gives-two}
use Rattle.script.proofs.draft.Draft.read_slots.Goals as goal

pub returns : goal.returns
returns c =
    let version = ap (λ (plan : Plan). plan.header.version) c.self.view_is in
    let first = rw version at c.read_slot-first.ensures in
    let second = rw version at c.read_slot-second.ensures in
    rw c.in-Some.ensures (Gives-two itself itself c.args.self.now.header slot slot c.in-Some.first.now c.in-Some.second.now c.in-Some.frames _ _ _ _ _ _ _ _ first second c.read_stack-stack.ensures c.both-behind.ensures c.both.ensures)
