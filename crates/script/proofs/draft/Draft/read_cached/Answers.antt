use Rattle.std.proofs.Common.{ap}
use Rattle.script.specs.Plan.{Plan}
use Rattle.script.specs.Fields.{slot, cache}
use Rattle.script.specs.Reading.{itself}
use Rattle.script.proofs.GivesLemmas.{Gives-two}
use Rattle.script.proofs.draft.Draft.read_cached.Goals as goal

pub returns : goal.returns
returns c =
    let version = ap (λ (plan : Plan). plan.header.version) c.self.view_is in
    let first = rw version at c.read_slot-slot.ensures in
    rw c.in-Some.ensures (Gives-two itself itself c.args.self.now.header slot cache c.in-Some.slot.now c.in-Some.name.now c.in-Some.frames _ _ _ _ _ _ _ _ first c.read_cache_name-cache.ensures c.read_stack-stack.ensures c.both-behind.ensures c.both.ensures)
