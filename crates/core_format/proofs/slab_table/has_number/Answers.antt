use Rattle.std.proofs.Common.{◌∙◌}
use Rattle.core_format.proofs.SlabTableLemmas.{has_number-searched}
use Rattle.core_format.proofs.slab_table.has_number.Goals as goal

pub returns : goal.returns
returns c = c.is_ok.ensures.value ∙ has_number-searched c.args.numbers.now c.args.number c.binary_search.result c.requires c.binary_search.ensures.position
