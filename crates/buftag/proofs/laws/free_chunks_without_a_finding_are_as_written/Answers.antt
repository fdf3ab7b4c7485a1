use Rattle.buftag.proofs.LawsLemmas.{intact-free}
use Rattle.buftag.proofs.laws.free_chunks_without_a_finding_are_as_written.Goals as goal

pub returns : goal.returns
returns c = intact-free
