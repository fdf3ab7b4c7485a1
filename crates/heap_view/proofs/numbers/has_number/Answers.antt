use Rattle.std.proofs.Common.{◌∙◌}
use Rattle.heap_view.proofs.NumbersLemmas.{searched_has}
use Rattle.heap_view.proofs.numbers.has_number.Goals as goal

pub returns : goal.returns
returns c = c.is_ok.ensures.value ∙ searched_has c.args.numbers.now c.args.number c.binary_search.result c.requires c.binary_search.ensures.position
