use Rattle.std.proofs.Common.{refl, rules}
use Rattle.std.proofs.lemmas.List.{map-append}
use Rattle.magazine.specs.Magazine.{Magazine}
use Rattle.depot.specs.Depot.{AreMagazines, IsFullOf, TradesForEmpty}
use Rattle.depot.proofs.DepotLemmas.{AreMagazines-filled, IsDepot-from_magazines, TradesRounds-for_empty, depot_of, newest-empty}
use Rattle.depot.proofs.depot.Depot.trade_for_empty.Goals as goal

-- the magazine that the CPU gets is empty
trade : (c : goal.After-push) → TradesForEmpty c.args.self.now (depot_of c.self.inside.size c.push.new.self.items) c.args.cpu.now c.load_empty-full.new.self
trade c =
    let empty = newest-empty c.self.inside.size c.self.inside.empty.items c.pop.new.self.items c.in-Some.empty c.in-Some.ensures.items c.self.invariant.emptied in
    record {
      size = rw (← c.self.view_is) refl;
      full = rw (c.push.ensures.items, c.load_empty-full.ensures.back, ← c.self.view_is) (map-append (λ (magazine : Magazine). magazine.rounds) c.self.inside.full.items _);
      cpu_size = rw c.load_empty-full.ensures.loaded refl;
      loaded = rw c.load_empty-full.ensures.loaded empty.1;
      previous = rw c.load_empty-full.ensures.loaded refl;
    }

-- the magazine that comes back is the CPU's previous one, which is full
full : (c : goal.After-push) → IsFullOf c.self.inside.size c.load_empty-full.result
full c = search rules

sound : (c : goal.After-push) → AreMagazines c.self.inside.size c.push.new.self.items c.push.new.self.spare c.pop.new.self.items c.pop.new.self.spare
sound c =
    rw c.push.ensures.items
    (AreMagazines-filled c.self.inside.size c.self.inside.full.items c.pop.new.self.items c.self.inside.empty.items c.in-Some.empty c.load_empty-full.result _ _ _ _ c.self.invariant c.in-Some.ensures.items c.push.ensures.spare c.in-Some.ensures.empty (full c))

pub returns-clause-traded : goal.returns-clause-traded
returns-clause-traded c = trade c

pub returns-clause-holds : goal.returns-clause-holds
returns-clause-holds c = TradesRounds-for_empty (trade c)

pub returns-clause-sound : goal.returns-clause-sound
returns-clause-sound c = IsDepot-from_magazines _ _ _ _ _ (sound c)
