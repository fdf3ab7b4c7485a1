use Rattle.std.proofs.Common.{◌++◌}
use Rattle.std.specs.Prelude.{codes}
use Rattle.umem_cli.specs.Messages.{numbered_line}
use Rattle.umem_cli.proofs.MessagesLemmas.{front_more, front_behind, front_written, whole_behind}
use Rattle.umem_cli.proofs.message.write_numbered.Goals as goal

pub returns-in_err-write_whole-clause-taken : goal.returns-in_err-write_whole-clause-taken
returns-in_err-write_whole-clause-taken g c =
    let start = g.E.Sink.taken c.args.err.now in
    let first = g.E.Sink.taken c.write_whole.new.to in
    let rest = c.args.name.now ++ numbered_line c.args.label.now c.args.number c.args.word.now in
    front_written start first (codes "umem: " ++ rest) c.from_residual.result c.from_residual.ensures.0 (front_more start first (codes "umem: ") rest c.in_err-write_whole.ensures.taken)

pub returns-in_err-write_whole-2-clause-taken : goal.returns-in_err-write_whole-2-clause-taken
returns-in_err-write_whole-2-clause-taken g c =
    let start = g.E.Sink.taken c.args.err.now in
    let first = g.E.Sink.taken c.write_whole.new.to in
    let second = g.E.Sink.taken c.write_whole-2.new.to in
    let name = c.args.name.now in
    let said = numbered_line c.args.label.now c.args.number c.args.word.now in
    front_written start second (codes "umem: " ++ (name ++ said)) c.from_residual-in_err-write_whole-2.result c.from_residual-in_err-write_whole-2.ensures.0
    (front_behind start first second (codes "umem: ") (name ++ said) c.in_ok-write_whole.ensures.taken (front_more first second name said c.in_err-write_whole-2.ensures.taken))

pub returns-clause-taken : goal.returns-clause-taken
returns-clause-taken g c =
    let start = g.E.Sink.taken c.args.err.now in
    let first = g.E.Sink.taken c.write_whole.new.to in
    let second = g.E.Sink.taken c.write_whole-2.new.to in
    let third = g.E.Sink.taken c.write_number.new.err in
    let name = c.args.name.now in
    let said = numbered_line c.args.label.now c.args.number c.args.word.now in
    whole_behind start first third (codes "umem: ") (name ++ said) c.write_number.result c.in_ok-write_whole.ensures.taken (whole_behind first second third name said c.write_number.result c.in_ok-write_whole-2.ensures.taken c.write_number.ensures.taken)
