use Rattle.std.proofs.Common.{◌≡◌, reverse, rules}
use Rattle.slab_layer.specs.Slabs.{after_puts}
use Rattle.slab_layer.proofs.SlabsLemmas.{KeepsRounds-put}
use Rattle.magazine.proofs.magazine.Magazine.drain_into.Goals as goal

pub returns-clause-holds : goal.returns-clause-holds
returns-clause-holds c =
    let put : c.loop-round.slabs.slabs ≡ after_puts c.args.slabs.now.slabs (reverse c.args.self.now.rounds) = search rules in
    KeepsRounds-put c.args.slabs.now.slabs c.loop-round.slabs.slabs (reverse c.args.self.now.rounds) c.cache.ensures.sound put
