use Rattle.std.proofs.Common.{◌∙◌, sym}
use Rattle.buftag.proofs.RowsLemmas.{found_row, found_no_row}
use Rattle.buftag.proofs.check.first_broken.Goals as goal

pub returns-in_err-row : goal.returns-in_err-row
returns-in_err-row c =
    c.from_residual.ensures ∙ sym (found_no_row c.args.bytes.now c.args.shape.now c.args.state c.kind_of.result c.facts_of-facts.result c.first_row.result c.kind_of.ensures c.facts_of-facts.ensures c.first_row.ensures c.in_err-row.was)

pub bounds-row : goal.bounds-row
bounds-row c =
    (found_row c.args.bytes.now c.args.shape.now c.args.state c.kind_of.result c.facts_of-facts.result c.first_row.result c.in_ok-row.row c.kind_of.ensures c.facts_of-facts.ensures c.first_row.ensures c.in_ok-row.was).0

pub returns : goal.returns
returns c =
    let found = found_row c.args.bytes.now c.args.shape.now c.args.state c.kind_of.result c.facts_of-facts.result c.first_row.result c.in_ok-row.row c.kind_of.ensures c.facts_of-facts.ensures c.first_row.ensures c.in_ok-row.was in
    rw (c.finding_of.ensures, c.wrong_word-wrong.ensures) (sym (found.1 _))
