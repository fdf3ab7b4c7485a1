use Rattle.std.proofs.Common.{◌++◌}
use Rattle.umem_cli.proofs.MessagesLemmas.{front_more, front_behind, front_written, whole_behind}
use Rattle.umem_cli.proofs.message.write_three.Goals as goal

pub returns-in_err-write_whole-clause-taken : goal.returns-in_err-write_whole-clause-taken
returns-in_err-write_whole-clause-taken g c =
    let start = g.E.Sink.taken c.args.err.now in
    let first = g.E.Sink.taken c.write_whole.new.to in
    let more = c.args.b.now ++ c.args.c.now in
    front_written start first (c.args.a.now ++ more) c.from_residual.result c.from_residual.ensures.0 (front_more start first c.args.a.now more c.in_err-write_whole.ensures.taken)

pub returns-in_err-write_whole-2-clause-taken : goal.returns-in_err-write_whole-2-clause-taken
returns-in_err-write_whole-2-clause-taken g c =
    let start = g.E.Sink.taken c.args.err.now in
    let first = g.E.Sink.taken c.write_whole.new.to in
    let second = g.E.Sink.taken c.write_whole-2.new.to in
    let more = c.args.b.now ++ c.args.c.now in
    front_written start second (c.args.a.now ++ more) c.from_residual-in_err-write_whole-2.result c.from_residual-in_err-write_whole-2.ensures.0
    (front_behind start first second c.args.a.now more c.in_ok-write_whole.ensures.taken (front_more first second c.args.b.now c.args.c.now c.in_err-write_whole-2.ensures.taken))

pub returns-clause-taken : goal.returns-clause-taken
returns-clause-taken g c =
    let start = g.E.Sink.taken c.args.err.now in
    let first = g.E.Sink.taken c.write_whole.new.to in
    let second = g.E.Sink.taken c.write_whole-2.new.to in
    let third = g.E.Sink.taken c.write_whole-3.new.to in
    whole_behind start first third c.args.a.now (c.args.b.now ++ c.args.c.now) c.write_whole-3.result c.in_ok-write_whole.ensures.taken (whole_behind first second third c.args.b.now c.args.c.now c.write_whole-3.result c.in_ok-write_whole-2.ensures.taken c.write_whole-3.ensures.taken)
