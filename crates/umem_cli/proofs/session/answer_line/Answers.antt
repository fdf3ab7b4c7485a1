use Rattle.std.proofs.Common.{refl, sym, ◌∙◌}
use Rattle.umem_cli.specs.Streams.{streams, without_store}
use Rattle.umem_cli.proofs.LineLemmas.{answer_stopped, answer_written, no_word, refusal_stopped, refusal_written, skipped, some_word}
use Rattle.umem_cli.proofs.session.answer_line.Goals as goal

pub returns-then-is_none : goal.returns-then-is_none
returns-then-is_none g c =
    let out = c.args.out.now in
    let err = c.args.err.now in
    let both = without_store (streams (g.O.Sink.taken out) (g.O.Sink.faults out) (g.E.Sink.taken err) (g.E.Sink.faults err)) in
    skipped c.args.view.now c.args.number c.args.line.now both (no_word c.args.line.now c.split_word.result c.is_none.result c.is_none.ensures c.if-is_none.true c.split_word.ensures.words)

pub returns-in-Ok-answer_command : goal.returns-in-Ok-answer_command
returns-in-Ok-answer_command g c =
    let out = c.args.out.now in
    let later = c.answer_command.new.out in
    let err = c.args.err.now in
    let before = without_store (streams (g.O.Sink.taken out) (g.O.Sink.faults out) (g.E.Sink.taken err) (g.E.Sink.faults err)) in
    let after = without_store (streams (g.O.Sink.taken later) (g.O.Sink.faults later) (g.E.Sink.taken err) (g.E.Sink.faults err)) in
    let word = some_word c.args.line.now c.split_word.result c.is_none.result c.is_none.ensures c.if-is_none.false c.split_word.ensures.words in
    answer_written c.args.view.now c.args.number c.args.line.now c.in-Ok.dcmd before after word (sym c.read_dcmd.ensures ∙ c.in-Ok.is) c.in-Ok-answer_command.ensures refl refl

pub returns-in-Err-answer_command : goal.returns-in-Err-answer_command
returns-in-Err-answer_command g c =
    let out = c.args.out.now in
    let later = c.answer_command.new.out in
    let err = c.args.err.now in
    let before = without_store (streams (g.O.Sink.taken out) (g.O.Sink.faults out) (g.E.Sink.taken err) (g.E.Sink.faults err)) in
    let after = without_store (streams (g.O.Sink.taken later) (g.O.Sink.faults later) (g.E.Sink.taken err) (g.E.Sink.faults err)) in
    let word = some_word c.args.line.now c.split_word.result c.is_none.result c.is_none.ensures c.if-is_none.false c.split_word.ensures.words in
    answer_stopped c.args.view.now c.args.number c.args.line.now c.in-Ok.dcmd before after c.in-Err-answer_command.status word (sym c.read_dcmd.ensures ∙ c.in-Ok.is) c.in-Err-answer_command.ensures refl refl

pub returns-in-Ok-write_line_message : goal.returns-in-Ok-write_line_message
returns-in-Ok-write_line_message g c =
    let out = c.args.out.now in
    let err = c.args.err.now in
    let later = c.write_line_message.new.err in
    let before = without_store (streams (g.O.Sink.taken out) (g.O.Sink.faults out) (g.E.Sink.taken err) (g.E.Sink.faults err)) in
    let after = without_store (streams (g.O.Sink.taken out) (g.O.Sink.faults out) (g.E.Sink.taken later) (g.E.Sink.faults later)) in
    let word = some_word c.args.line.now c.split_word.result c.is_none.result c.is_none.ensures c.if-is_none.false c.split_word.ensures.words in
    let told = c.in-Ok-write_line_message.ensures in
    refusal_written c.args.view.now c.args.number c.args.line.now c.in-Err.fault before after word (sym c.read_dcmd.ensures ∙ c.in-Err.is) refl (told.taken, told.cause) refl

pub returns-in-Err-write_line_message : goal.returns-in-Err-write_line_message
returns-in-Err-write_line_message g c =
    let out = c.args.out.now in
    let err = c.args.err.now in
    let later = c.write_line_message.new.err in
    let before = without_store (streams (g.O.Sink.taken out) (g.O.Sink.faults out) (g.E.Sink.taken err) (g.E.Sink.faults err)) in
    let after = without_store (streams (g.O.Sink.taken out) (g.O.Sink.faults out) (g.E.Sink.taken later) (g.E.Sink.faults later)) in
    let word = some_word c.args.line.now c.split_word.result c.is_none.result c.is_none.ensures c.if-is_none.false c.split_word.ensures.words in
    let front = c.in-Err-write_line_message.ensures in
    refusal_stopped c.args.view.now c.args.number c.args.line.now c.in-Err.fault before after word (sym c.read_dcmd.ensures ∙ c.in-Err.is) refl (front.taken.0, front.taken.1, front.taken.2, front.cause) refl
