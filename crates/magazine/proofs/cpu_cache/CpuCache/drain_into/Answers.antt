use Rattle.std.proofs.Common.{◌≡◌, ap}
use Rattle.slab_layer.specs.Slabs.{Slabs, after_puts}
use Rattle.slab_layer.proofs.SlabsLemmas.{KeepsRounds-put, after_puts-append}
use Rattle.magazine.specs.CpuCache.{drain_order}
use Rattle.magazine.proofs.cpu_cache.CpuCache.drain_into.Goals as goal

put : (c : goal.After-drain_into-2) → c.drain_into-2.new.slabs ≡ record c.args.slabs.now { slabs = after_puts c.args.slabs.now.slabs (drain_order c.args.self.now) }
put c = rw (c.drain_into-2.ensures.put, c.drain_into.ensures.put, ← c.self.view_is, after_puts-append)

pub returns-clause-put : goal.returns-clause-put
returns-clause-put c = put c

pub returns-clause-holds : goal.returns-clause-holds
returns-clause-holds c =
    KeepsRounds-put c.args.slabs.now.slabs c.drain_into-2.new.slabs.slabs (drain_order c.args.self.now) c.cache.ensures.sound (ap (λ (s : Slabs). s.slabs) (put c))
