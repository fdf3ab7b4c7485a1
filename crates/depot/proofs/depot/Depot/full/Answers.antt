use Rattle.std.proofs.Common.{sym}
use Rattle.depot.proofs.DepotLemmas.{IsDepot-from_magazines, full_magazines-depot_of}
use Rattle.depot.proofs.depot.Depot.full.Goals as goal

pub returns-clause-full : goal.returns-clause-full
returns-clause-full c = rw (c.as_slice.ensures, ← c.self.view_is) (sym (full_magazines-depot_of c.self.inside.size c.self.inside.full.items c.self.invariant.filled))

pub returns-clause-sound : goal.returns-clause-sound
returns-clause-sound c = rw (← c.self.view_is) (IsDepot-from_magazines _ _ _ _ _ c.self.invariant)
