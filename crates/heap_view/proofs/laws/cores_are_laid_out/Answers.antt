use Rattle.heap_view.proofs.LayoutLemmas.{laid_out}
use Rattle.heap_view.proofs.laws.cores_are_laid_out.Goals as goal

pub returns : goal.returns
returns c = laid_out
