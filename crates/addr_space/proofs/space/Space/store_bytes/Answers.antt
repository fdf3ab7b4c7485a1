use Rattle.std.proofs.Common.{length, get_or, refl}
use Rattle.addr_space.proofs.SpaceLemmas.{IsMappedRange-place, IsSound-writes, Writes-with_part_at}
use Rattle.addr_space.proofs.space.Space.store_bytes.Goals as goal

pub returns-in-Some-clause-stored : goal.returns-in-Some-clause-stored
returns-in-Some-clause-stored c =
    let ms = c.self.inside.runs.items in
    let place = rw (← c.self.view_is) at c.in-Some.ensures.found in
    rw (← c.self.view_is, c.copy_from_slice.ensures.after) (Writes-with_part_at ms c.in-Some.place.index c.in-Some.place.from c.args.at (length c.args.bytes.now) c.args.bytes.now c.self.invariant place.1 place.2 refl)

pub returns-in-Some-clause-mapped : goal.returns-in-Some-clause-mapped
returns-in-Some-clause-mapped c =
    let ms = c.self.inside.runs.items in
    let place = rw (← c.self.view_is) at c.in-Some.ensures.found in
    rw (← c.self.view_is) (IsMappedRange-place ms c.in-Some.place.index c.in-Some.place.from c.args.at (length c.args.bytes.now) c.self.invariant place.1 place.2)

pub returns-in-Some-clause-sound : goal.returns-in-Some-clause-sound
returns-in-Some-clause-sound c =
    IsSound-writes _ _ c.args.at (length c.args.bytes.now) (λ k. get_or c.args.bytes.now k 0) c.in-Some.ensures.sound (returns-in-Some-clause-mapped c) (returns-in-Some-clause-stored c)

pub returns-then-not-is_mapped-clause-sound : goal.returns-then-not-is_mapped-clause-sound
returns-then-not-is_mapped-clause-sound c = c.in_default.ensures.sound

pub returns-clause-sound : goal.returns-clause-sound
returns-clause-sound c =
    let mapped = rw c.if-not-is_mapped.false at c.is_mapped.ensures.cases in
    IsSound-writes _ _ c.args.at (length c.args.bytes.now) (λ k. get_or c.args.bytes.now k 0) c.in_default.ensures.sound mapped c.store_each.ensures
