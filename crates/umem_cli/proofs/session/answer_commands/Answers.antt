use Rattle.std.proofs.Common.{length, sym, ap, arith}
use Rattle.std.proofs.lemmas.Bool.{eqb-true}
use Rattle.umem_cli.specs.declared.status.Status.TheVariants.{Done, Refused}
use Rattle.umem_cli.specs.Sessions.{answered}
use Rattle.umem_cli.specs.Streams.{streams, without_store}
use Rattle.umem_cli.proofs.SessionLemmas.{all_so_far, or_else, or_then, so_far_more, so_far_none, stopped_so_far}
use Rattle.umem_cli.proofs.session.answer_commands.Goals as goal

pub loop-rest-init : goal.loop-rest-init
loop-rest-init g c =
    let out = c.args.out.now in
    let err = c.args.err.now in
    let both = without_store (streams (g.O.Sink.taken out) (g.O.Sink.faults out) (g.E.Sink.taken err) (g.E.Sink.faults err)) in
    record { so = so_far_none c.args.view.now c.args.commands.now both; room = omega arith }

pub returns-in-Err : goal.returns-in-Err
returns-in-Err g c =
    let before = without_store (streams (g.O.Sink.taken c.args.out.now) (g.O.Sink.faults c.args.out.now) (g.E.Sink.taken c.args.err.now) (g.E.Sink.faults c.args.err.now)) in
    let between = without_store (streams (g.O.Sink.taken c.loop-rest.out) (g.O.Sink.faults c.loop-rest.out) (g.E.Sink.taken c.loop-rest.err) (g.E.Sink.faults c.loop-rest.err)) in
    let after = without_store (streams (g.O.Sink.taken c.answer_line.new.out) (g.O.Sink.faults c.answer_line.new.out) (g.E.Sink.taken c.answer_line.new.err) (g.E.Sink.faults c.answer_line.new.err)) in
    stopped_so_far c.args.view.now c.args.commands.now c.loop-rest.rest.now c.split_line.result.0.now c.split_line.result.1.now c.loop-rest.number c.loop-rest.refused before between after c.in-Err.status
    c.loop-rest.invariant.so c.split_line.ensures.lines c.in-Err.ensures

pub loop-rest-preserved-then-refused : goal.loop-rest-preserved-then-refused
loop-rest-preserved-then-refused g c =
    let before = without_store (streams (g.O.Sink.taken c.args.out.now) (g.O.Sink.faults c.args.out.now) (g.E.Sink.taken c.args.err.now) (g.E.Sink.faults c.args.err.now)) in
    let between = without_store (streams (g.O.Sink.taken c.loop-rest.out) (g.O.Sink.faults c.loop-rest.out) (g.E.Sink.taken c.loop-rest.err) (g.E.Sink.faults c.loop-rest.err)) in
    let after = without_store (streams (g.O.Sink.taken c.answer_line.new.out) (g.O.Sink.faults c.answer_line.new.out) (g.E.Sink.taken c.answer_line.new.err) (g.E.Sink.faults c.answer_line.new.err)) in
    record {
      so = so_far_more c.args.view.now c.args.commands.now c.loop-rest.rest.now c.split_line.result.0.now c.split_line.result.1.now c.loop-rest.number c.loop-rest.refused c.in-Ok.refuses c.loop-rest.refused before between after
          (or_then c.loop-rest.refused c.in-Ok.refuses c.if-refused.true) c.loop-rest.invariant.so c.split_line.ensures.lines c.in-Ok.ensures;
      room = omega (arith, c.loop-rest.invariant.room, c.split_line.ensures.shorter);
    }

pub loop-rest-preserved : goal.loop-rest-preserved
loop-rest-preserved g c =
    let before = without_store (streams (g.O.Sink.taken c.args.out.now) (g.O.Sink.faults c.args.out.now) (g.E.Sink.taken c.args.err.now) (g.E.Sink.faults c.args.err.now)) in
    let between = without_store (streams (g.O.Sink.taken c.loop-rest.out) (g.O.Sink.faults c.loop-rest.out) (g.E.Sink.taken c.loop-rest.err) (g.E.Sink.faults c.loop-rest.err)) in
    let after = without_store (streams (g.O.Sink.taken c.answer_line.new.out) (g.O.Sink.faults c.answer_line.new.out) (g.E.Sink.taken c.answer_line.new.err) (g.E.Sink.faults c.answer_line.new.err)) in
    record {
      so = so_far_more c.args.view.now c.args.commands.now c.loop-rest.rest.now c.split_line.result.0.now c.split_line.result.1.now c.loop-rest.number c.loop-rest.refused c.in-Ok.refuses c.in-Ok.refuses before between after
          (or_else c.loop-rest.refused c.in-Ok.refuses c.if-refused.false) c.loop-rest.invariant.so c.split_line.ensures.lines c.in-Ok.ensures;
      room = omega (arith, c.loop-rest.invariant.room, c.split_line.ensures.shorter);
    }

pub returns-then-refused-2 : goal.returns-then-refused-2
returns-then-refused-2 g c =
    let before = without_store (streams (g.O.Sink.taken c.args.out.now) (g.O.Sink.faults c.args.out.now) (g.E.Sink.taken c.args.err.now) (g.E.Sink.faults c.args.err.now)) in
    let now = without_store (streams (g.O.Sink.taken c.loop-rest.out) (g.O.Sink.faults c.loop-rest.out) (g.E.Sink.taken c.loop-rest.err) (g.E.Sink.faults c.loop-rest.err)) in
    let ended = eqb-true (length c.loop-rest.rest.now) 0 (sym c.loop-rest-test.ensures) in
    all_so_far c.args.view.now c.args.commands.now c.loop-rest.rest.now c.loop-rest.number c.loop-rest.refused before now Refused ended (sym (ap answered c.if-refused-2.true)) c.loop-rest.invariant.so

pub returns-else-refused-2 : goal.returns-else-refused-2
returns-else-refused-2 g c =
    let before = without_store (streams (g.O.Sink.taken c.args.out.now) (g.O.Sink.faults c.args.out.now) (g.E.Sink.taken c.args.err.now) (g.E.Sink.faults c.args.err.now)) in
    let now = without_store (streams (g.O.Sink.taken c.loop-rest.out) (g.O.Sink.faults c.loop-rest.out) (g.E.Sink.taken c.loop-rest.err) (g.E.Sink.faults c.loop-rest.err)) in
    let ended = eqb-true (length c.loop-rest.rest.now) 0 (sym c.loop-rest-test.ensures) in
    all_so_far c.args.view.now c.args.commands.now c.loop-rest.rest.now c.loop-rest.number c.loop-rest.refused before now Done ended (sym (ap answered c.if-refused-2.false)) c.loop-rest.invariant.so
