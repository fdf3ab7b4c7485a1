use Rattle.std.proofs.Common.{sym, ap, ◌∙◌}
use Rattle.umem_base.specs.MemSource.{MemSource}
use Rattle.umem_base.proofs.Lists.{slice_rest}
use Rattle.umem_base.proofs.MemSourceLemmas.{moves, moves_none}
use Rattle.umem_base.proofs.memory.source.MemSourceSource.read.Goals as goal

pub returns-clause-moved : goal.returns-clause-moved
returns-clause-moved c =
    let bytes = c.self.inside.bytes.items in
    let at = c.self.inside.at in
    let is = rw (c.deref.ensures.value, slice_rest bytes at) at c.min-count.ensures in
    let filled = rw (c.deref.ensures.value, slice_rest bytes at) at c.copy_from_slice.ensures.after in
    let left = ap (λ (s : MemSource). s.left) c.self.view_is in
    let buffer = c.args.buffer.now in
    (sym left ∙ moves bytes buffer _ at _ is filled, moves_none bytes buffer _ at _ is filled)
