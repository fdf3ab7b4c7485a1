use Rattle.std.proofs.Common.{sym}
use Rattle.shelf.proofs.PartsLemmas.{cpu_caches-parts}
use Rattle.shelf.proofs.shelf.Shelf.cpus.Goals as goal

pub returns : goal.returns
returns c =
    rw (c.deref.ensures.value, ← c.self.view_is)
    (sym (cpu_caches-parts c.self.inside.cpus.items c.self.inside.depot c.self.inside.slabs.slabs c.self.invariant.sizes))
