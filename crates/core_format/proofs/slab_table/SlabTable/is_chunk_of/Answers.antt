use Rattle.std.proofs.Common.{◌≡◌, sym, ap}
use Rattle.core_format.specs.SlabTable.{SlabTable}
use Rattle.core_format.proofs.SlabTableLemmas.{is_chunk_of-none, is_chunk_of-owner}
use Rattle.core_format.proofs.slab_table.SlabTable.is_chunk_of.Goals as goal

pub returns-in-Some : goal.returns-in-Some
returns-in-Some c =
    let slabs : c.self.inside.slabs.items ≡ c.args.self.now.slabs = ap (λ (t : SlabTable). t.slabs) c.self.view_is in
    is_chunk_of-owner c.args.self.now c.args.cache c.args.chunk c.in-Some.index c.index.result.now c.in-Some.ensures.owner (rw slabs at c.index.ensures)

pub returns-in-None : goal.returns-in-None
returns-in-None c = sym (is_chunk_of-none c.args.self.now c.args.cache c.args.chunk (sym c.in-None.ensures.found))
