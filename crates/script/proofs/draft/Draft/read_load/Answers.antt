use Rattle.std.proofs.Common.{ap}
use Rattle.script.specs.Plan.{Plan}
use Rattle.script.specs.Fields.{slot}
use Rattle.script.specs.Grammar.{offset}
use Rattle.script.specs.Reading.{itself}
use Rattle.script.proofs.GivesLemmas.{Gives-three}
use Rattle.script.proofs.draft.Draft.read_load.Goals as goal

pub returns : goal.returns
returns c =
    let version = ap (λ (plan : Plan). plan.header.version) c.self.view_is in
    let first = rw version at c.read_slot-to.ensures in
    let second = rw version at c.read_slot-slot.ensures in
    rw c.in-Some.ensures (Gives-three itself itself itself c.args.self.now.header slot slot offset c.in-Some.to.now c.in-Some.slot.now c.in-Some.offset.now c.in-Some.frames _ _ _ _ _ _ _ _ _ _ _ first second c.read_number-offset.ensures c.read_stack-stack.ensures c.both-last.ensures c.both-behind.ensures c.both.ensures)
