use Rattle.core_format.specs.Slabs.{shape_at}
use Rattle.core_format.proofs.LawLemmas.{follows}
use Rattle.core_format.proofs.laws.chunks_of_a_slab_follow_one_another.Goals as goal

pub returns : goal.returns
returns c = λ shapes slab index. follows slab.base slab.colour slab.first index (shape_at shapes slab.cache).chunk
