use Rattle.buftag.proofs.RowsLemmas.{same_place}
use Rattle.buftag.proofs.check.first_row.Goals as goal

pub returns : goal.returns
returns c = let place = same_place c.args.kind c.args.facts.now in cc
