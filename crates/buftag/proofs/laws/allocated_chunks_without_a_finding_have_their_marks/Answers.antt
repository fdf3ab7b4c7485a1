use Rattle.buftag.proofs.LawsLemmas.{marks-allocated}
use Rattle.buftag.proofs.laws.allocated_chunks_without_a_finding_have_their_marks.Goals as goal

pub returns : goal.returns
returns c = marks-allocated
