use Rattle.std.proofs.Common.{rules}
use Rattle.depot.specs.Depot.{AreMagazines, IsEmptyOf}
use Rattle.depot.proofs.DepotLemmas.{AreMagazines-emptied, IsDepot-from_magazines}
use Rattle.depot.proofs.depot.Depot.trade_for_full.Goals as goal

-- the magazine that comes back is the CPU's previous one, which is empty
empty : (c : goal.After-push) → IsEmptyOf c.self.inside.size c.load_full-empty.result
empty c = search rules

sound : (c : goal.After-push) → AreMagazines c.self.inside.size c.pop.new.self.items c.pop.new.self.spare c.push.new.self.items c.push.new.self.spare
sound c =
    rw c.push.ensures.items
    (AreMagazines-emptied c.self.inside.size c.self.inside.full.items c.pop.new.self.items c.self.inside.empty.items c.in-Some.full c.load_full-empty.result _ _ _ _ c.self.invariant c.in-Some.ensures.items c.in-Some.ensures.empty c.push.ensures.spare (empty c))

pub invariant_of-self-2 : goal.invariant_of-self-2
invariant_of-self-2 c = sound c

pub returns-clause-sound : goal.returns-clause-sound
returns-clause-sound c = IsDepot-from_magazines _ _ _ _ _ (sound c)
