use Rattle.std.proofs.Common.{◌≡◌, [], rules}
use Rattle.shelf.specs.Shelf.{reach_in}
use Rattle.shelf.specs.Steps.{from_behind}
use Rattle.shelf.proofs.StepsLemmas.{IsStep, from_behind-slabs, from_behind-traded}
use Rattle.shelf.proofs.steps.take_behind.Goals as goal

traded : (c : goal.After-take_any) → IsStep (reach_in c.args.cpu.now c.args.depot.now c.args.slabs.now) (from_behind (reach_in c.args.cpu.now c.args.depot.now c.args.slabs.now)) c.take_any.result (reach_in c.take_any.new.self c.trade_for_full.new.self c.args.slabs.now)
traded c = from_behind-traded c.args.depot.now c.trade_for_full.new.self c.args.cpu.now c.trade_for_full.new.cpu c.take_any.new.self c.args.slabs.now c.take_any.result c.full.ensures.sound (search rules) c.take_any.ensures.cases

pub returns-then-trade_for_full-clause-round : goal.returns-then-trade_for_full-clause-round
returns-then-trade_for_full-clause-round c = (traded c).round

pub returns-then-trade_for_full-clause-left : goal.returns-then-trade_for_full-clause-left
returns-then-trade_for_full-clause-left c = (traded c).now

full : (c : goal.After-take) → c.args.depot.now.full ≡ []
full c = search rules

listed : (c : goal.After-take) → IsStep (reach_in c.args.cpu.now c.args.depot.now c.args.slabs.now) (from_behind (reach_in c.args.cpu.now c.args.depot.now c.args.slabs.now)) c.take.result (reach_in c.args.cpu.now c.args.depot.now c.take.new.self)
listed c = from_behind-slabs c.args.cpu.now c.args.depot.now c.args.slabs.now c.take.new.self c.take.result c.requires.empty (full c) c.take.ensures.none.0 c.take.ensures.lowest c.take.ensures.holds c.take.ensures.taken

pub returns-clause-round : goal.returns-clause-round
returns-clause-round c = (listed c).round

pub returns-clause-left : goal.returns-clause-left
returns-clause-left c =
    let same = c.if-trade_for_full.ensures.unchanged in
    rw (same.0, same.1) (listed c).now
