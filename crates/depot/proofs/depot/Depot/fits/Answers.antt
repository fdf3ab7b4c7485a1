use Rattle.depot.proofs.DepotLemmas.{IsDepot-from_magazines}
use Rattle.depot.proofs.depot.Depot.fits.Goals as goal

pub returns-clause-sound : goal.returns-clause-sound
returns-clause-sound c = rw (← c.self.view_is) (IsDepot-from_magazines _ _ _ _ _ c.self.invariant)
