use Rattle.std.proofs.Common.{add-zero, arith}
use Rattle.addr_space.proofs.SpaceLemmas.{IsInRun-from_byte, put_one}
use Rattle.addr_space.proofs.space.Space.put.Goals as goal

pub returns-in-Some : goal.returns-in-Some
returns-in-Some c =
    let ms = c.self.inside.runs.items in
    let place = rw (← c.self.view_is) at c.in-Some.ensures.found in
    rw (← c.self.view_is) (put_one ms c.in-Some.place.index c.in-Some.place.from c.args.at c.args.byte c.part_mut-part.result.now c.self.invariant place.1 place.2 c.part_mut-part.ensures.len)

pub returns-in_default : goal.returns-in_default
returns-in_default c =
    let ms = c.self.inside.runs.items in
    let mapped = rw (← c.self.view_is) at (c.requires 0 (omega arith)) in
    let none = rw (← c.self.view_is) at c.in_default.ensures.found in
    absurd (none (omega arith) (IsInRun-from_byte ms c.args.at c.self.invariant (rw add-zero at mapped)))
