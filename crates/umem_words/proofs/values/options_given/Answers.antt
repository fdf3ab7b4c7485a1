use Rattle.std.proofs.Common.{◌∙◌}
use Rattle.umem_words.proofs.ValuesLemmas.{no_text_no_options}
use Rattle.umem_words.proofs.values.options_given.Goals as goal

pub returns-in-None : goal.returns-in-None
returns-in-None c = rw c.in-None.is (c.read_debug.ensures.options ∙ no_text_no_options)
