use Rattle.std.proofs.Common.{◌%◌, ◌∙◌, ap, arith}
use Rattle.shelf.specs.Shelf.{Shelf}
use Rattle.heap_core.proofs.FoundLemmas.{can_hand, cpus_are, turn_found}
use Rattle.heap_core.proofs.chunk_calls.perform_on.Goals as goal

pub cpu_of-cpu-requires : goal.cpu_of-cpu-requires
cpu_of-cpu-requires c =
    let cpus = cpus_are c.args.books.now c.args.thread c.args.call c.args.shelf.now.stock c.requires in
    let few = c.requires.legal.plan.header.cpus in
    record { some = omega (arith, cpus, few); few = omega (arith, cpus, few) }

pub hand-requires : goal.hand-requires
hand-requires c = can_hand c.args.books.now c.args.thread c.args.call c.args.shelf.now.stock c.requires c.in-Some.round _ c.in-Some.ensures.holds

pub returns-clause-ok : goal.returns-clause-ok
returns-clause-ok c =
    let cpus = cpus_are c.args.books.now c.args.thread c.args.call c.args.shelf.now.stock c.requires in
    turn_found c.args.books.now c.args.thread c.args.call c.args.shelf.now.stock c.requires c.cpu_of-cpu.result (c.cpu_of-cpu.ensures ∙ ap (λ n. c.args.thread % n) cpus) c.find.new.self.stock c.hand.new.books
    c.in-Some.round c.hand.result c.in-Some.ensures.round (ap (λ (s : Shelf). s.stock) c.in-Some.ensures.left) c.hand.ensures
