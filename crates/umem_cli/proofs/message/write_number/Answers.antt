use Rattle.std.proofs.Common.{ℕ, List, ◌++◌, subst, ◌∙◌}
use Rattle.std.specs.Prelude.{codes, decimal}
use Rattle.std.specs.Io.KnownBytes.{Appends}
use Rattle.umem_cli.proofs.MessagesLemmas.{Front, front_more, front_behind, front_written, whole_behind}
use Rattle.umem_cli.proofs.message.write_number.Goals as goal

pub returns-in_err-write_whole-clause-taken : goal.returns-in_err-write_whole-clause-taken
returns-in_err-write_whole-clause-taken g c =
    let start = g.E.Sink.taken c.args.err.now in
    let first = g.E.Sink.taken c.write_whole.new.to in
    let label = c.args.label.now in
    let rest = decimal c.args.number ++ (codes ": " ++ (c.args.word.now ++ codes "\n")) in
    front_written start first (label ++ rest) c.from_residual.result c.from_residual.ensures.0 (front_more start first label rest c.in_err-write_whole.ensures.taken)

pub returns-in_err-write_whole-2-clause-taken : goal.returns-in_err-write_whole-2-clause-taken
returns-in_err-write_whole-2-clause-taken g c =
    let start = g.E.Sink.taken c.args.err.now in
    let first = g.E.Sink.taken c.write_whole.new.to in
    let second = g.E.Sink.taken c.write_whole-2.new.to in
    let label = c.args.label.now in
    let digits = decimal c.args.number in
    let behind = codes ": " ++ (c.args.word.now ++ codes "\n") in
    let front = subst (λ (l : List ℕ). Front first second l) (c.as_bytes.ensures.value ∙ c.format-digits.ensures.text) c.in_err-write_whole-2.ensures.taken in
    front_written start second (label ++ (digits ++ behind)) c.from_residual-in_err-write_whole-2.result c.from_residual-in_err-write_whole-2.ensures.0
    (front_behind start first second label (digits ++ behind) c.in_ok-write_whole.ensures.taken (front_more first second digits behind front))

pub returns-clause-taken : goal.returns-clause-taken
returns-clause-taken g c =
    let start = g.E.Sink.taken c.args.err.now in
    let first = g.E.Sink.taken c.write_whole.new.to in
    let second = g.E.Sink.taken c.write_whole-2.new.to in
    let third = g.E.Sink.taken c.write_three.new.err in
    let label = c.args.label.now in
    let digits = decimal c.args.number in
    let behind = codes ": " ++ (c.args.word.now ++ codes "\n") in
    let middle = subst (λ (l : List ℕ). Appends first second l) (c.as_bytes.ensures.value ∙ c.format-digits.ensures.text) c.in_ok-write_whole-2.ensures.taken in
    whole_behind start first third label (digits ++ behind) c.write_three.result c.in_ok-write_whole.ensures.taken (whole_behind first second third digits behind c.write_three.result middle c.write_three.ensures.taken)
