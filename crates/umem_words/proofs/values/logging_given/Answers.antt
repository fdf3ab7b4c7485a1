use Rattle.std.proofs.Common.{◌∙◌}
use Rattle.umem_words.proofs.ValuesLemmas.{no_text_no_logging}
use Rattle.umem_words.proofs.values.logging_given.Goals as goal

pub returns-in-None : goal.returns-in-None
returns-in-None c = rw c.in-None.is (c.read_logging.ensures.logging ∙ no_text_no_logging)
