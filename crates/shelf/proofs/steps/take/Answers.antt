use Rattle.std.proofs.Common.{refl}
use Rattle.shelf.proofs.StepsLemmas.{taken_in-got}
use Rattle.shelf.proofs.steps.take.Goals as goal

pub returns-in-Got-clause-round : goal.returns-in-Got-clause-round
returns-in-Got-clause-round c = rw (taken_in-got c.args.cpu.now c.alloc.new.self c.args.depot.now c.args.slabs.now c.in-Got.round c.in-Got.ensures.cases) refl

pub returns-in-Got-clause-left : goal.returns-in-Got-clause-left
returns-in-Got-clause-left c = rw (taken_in-got c.args.cpu.now c.alloc.new.self c.args.depot.now c.args.slabs.now c.in-Got.round c.in-Got.ensures.cases) refl
