use Rattle.std.proofs.Common.{◌+◌, Option, length, sym, ap, ◌∙◌}
use Rattle.std.specs.Option.{ok_or}
use Rattle.std.proofs.lemmas.Bool.{eqb-true}
use Rattle.script.specs.declared.reasons.Reason.TheVariants.{Header}
use Rattle.script.specs.Grammar.{script_of}
use Rattle.script.specs.Plan.{Plan}
use Rattle.script.specs.Reading.{line_fault, with_next}
use Rattle.script.proofs.KeptLemmas.{Reads-rules}
use Rattle.script.proofs.ReadLemmas.{IsRead-next, IsRead-bad, IsRead-all, script_of-within, Reads-bad, Reads-script}
use Rattle.script.proofs.read.read_script.Goals as goal

pub returns-in-Err-clause-said : goal.returns-in-Err-clause-said
returns-in-Err-clause-said c =
    let bytes = c.args.bytes.now in
    let line = c.split_line.result.0.now in
    Reads-bad {X = Unit {0}} (λ _. c.read_line.new.said) c.in-Err.fault (line_fault c.loop-rest.said line) (with_next c.loop-rest.said line) (c.loop-rest.number + 1) c.at_line.result (script_of bytes) c.in-Err.ensures c.at_line.ensures
    (λ reason refused. script_of-within bytes c.if-bytes-gt-MOST_BYTES.false ∙ IsRead-bad bytes c.loop-rest.rest.now c.split_line.result.1.now line c.loop-rest.said c.loop-rest.number reason c.loop-rest.invariant c.split_line.ensures.lines refused)

pub loop-rest-preserved : goal.loop-rest-preserved
loop-rest-preserved c =
    IsRead-next c.args.bytes.now c.loop-rest.rest.now c.split_line.result.1.now c.split_line.result.0.now c.loop-rest.said c.read_line.new.said c.loop-rest.number c.loop-rest.invariant
    c.split_line.ensures.lines c.split_line.ensures.shorter c.in_default.ensures.0 c.in_default.ensures.1

pub returns-in-Some : goal.returns-in-Some
returns-in-Some c =
    let bytes = c.args.bytes.now in
    let ended = eqb-true (length c.loop-rest.rest.now) 0 (sym c.loop-rest-test.ensures) in
    let all = IsRead-all bytes c.loop-rest.rest.now c.loop-rest.said c.loop-rest.number c.loop-rest.invariant ended in
    let said = Reads-script c.into_script.result c.in-Some.draft (script_of bytes) c.into_script.ensures
    (script_of-within bytes c.if-bytes-gt-MOST_BYTES.false ∙ all ∙ ap (λ (said : Option Plan). ok_or said (c.loop-rest.number + 1, Header)) c.in-Some.is) in
    record { said = said; formed = Reads-rules c.into_script.result bytes said }

pub returns-in-None-clause-said : goal.returns-in-None-clause-said
returns-in-None-clause-said c =
    let bytes = c.args.bytes.now in
    let ended = eqb-true (length c.loop-rest.rest.now) 0 (sym c.loop-rest-test.ensures) in
    let all = IsRead-all bytes c.loop-rest.rest.now c.loop-rest.said c.loop-rest.number c.loop-rest.invariant ended in
    script_of-within bytes c.if-bytes-gt-MOST_BYTES.false ∙ all ∙ ap (λ (said : Option Plan). ok_or said (c.loop-rest.number + 1, Header)) c.in-None.is
