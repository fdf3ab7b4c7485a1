use Rattle.findleaks.proofs.ChainsLemmas.{interior_reached}
use Rattle.findleaks.proofs.laws.interior_pointers_in_roots_keep_a_buffer.Goals as goal

pub returns : goal.returns
returns c = interior_reached
