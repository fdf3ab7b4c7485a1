use Rattle.std.specs.Prelude.{remove}
use Rattle.addr_space.proofs.SpaceLemmas.{IsSpace-remove, Unmaps-remove, unmapped_index, some_holds, IsSound-from_space}
use Rattle.addr_space.proofs.space.Space.unmap.Goals as goal

pub invariant_of-self : goal.invariant_of-self
invariant_of-self c =
    let place = rw c.deref.ensures.value at c.in-Some.ensures in
    rw c.remove.ensures.items (IsSpace-remove c.self.inside.runs.items c.in-Some.index c.self.invariant place.0)

pub returns-in-Some : goal.returns-in-Some
returns-in-Some c =
    let ms = c.self.inside.runs.items in
    let place = rw c.deref.ensures.value at c.in-Some.ensures in
    let run = rw (← c.self.view_is) at c.requires in
    rw (← c.self.view_is, c.remove.ensures.items) (record { sound = IsSound-from_space (remove ms c.in-Some.index) (IsSpace-remove ms c.in-Some.index c.self.invariant place.0); unmaps = Unmaps-remove ms c.in-Some.index c.args.base c.args.pages c.self.invariant place.0 (unmapped_index ms c.in-Some.index c.args.base c.args.pages c.self.invariant run place.0 place.1) })

pub returns-in_default : goal.returns-in_default
returns-in_default c =
    let none = rw c.deref.ensures.value at c.in_default.ensures in
    absurd (some_holds c.self.inside.runs.items c.args.base c.args.pages c.self.invariant (rw (← c.self.view_is) at c.requires) none)
