use Rattle.addr_space.proofs.SpaceLemmas.{IsSound-from_space, not_IsInRun, match_weaker}
use Rattle.addr_space.proofs.space.Space.place_of.Goals as goal

pub returns-clause-found : goal.returns-clause-found
returns-clause-found c =
    let ms = c.self.inside.runs.items in
    rw (← c.self.view_is) (match_weaker c.place_of.result (rw c.deref.ensures.value at c.place_of.ensures) (λ none some. not_IsInRun ms c.args.at c.args.count c.self.invariant (none some)) (λ p h. h))

pub returns-clause-sound : goal.returns-clause-sound
returns-clause-sound c = rw (← c.self.view_is) (IsSound-from_space c.self.inside.runs.items c.self.invariant)
