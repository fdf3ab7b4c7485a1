use Rattle.std.proofs.Common.{◌≡◌, [], refl, reverse, rules}
use Rattle.slab_layer.specs.Slabs.{after_puts}
use Rattle.slab_layer.proofs.SlabsLemmas.{KeepsRounds-put}
use Rattle.depot.specs.Depot.{depot_rounds}
use Rattle.depot.proofs.DepotLemmas.{AreMagazines-emptied, after_puts-newest, newest-full}
use Rattle.depot.proofs.depot.Depot.drain_into.Goals as goal

pub loop-magazine-preserved : goal.loop-magazine-preserved
loop-magazine-preserved c =
    let size = c.loop-magazine.self-inside.size in
    let full = c.loop-magazine.self-inside.full in
    let empty = c.loop-magazine.self-inside.empty in
    let rest = c.pop.new.self in
    let newest = c.in-Some.magazine in
    let was = c.loop-magazine.invariant in
    record {
      size = was.size;
      magazines =
          rw (c.push.ensures.items, c.drain_into.ensures.emptied)
          (AreMagazines-emptied size full.items rest.items empty.items newest (record newest { rounds = [] }) full.spare empty.spare rest.spare c.push.new.self.spare was.magazines c.in-Some.ensures.items c.in-Some.ensures.empty c.push.ensures.spare ((newest-full size full.items rest.items newest c.in-Some.ensures.items was.magazines.filled).0, refl));
      cache = search rules;
      spare = search rules;
      put =
          rw (c.drain_into.ensures.put, ← after_puts-newest c.loop-magazine.slabs.slabs full.items rest.items newest c.in-Some.ensures.items)
          was.put;
      sound = c.drain_into.ensures.sound;
    }

pub returns-clause-holds : goal.returns-clause-holds
returns-clause-holds c =
    let put : c.loop-magazine.slabs.slabs ≡ after_puts c.args.slabs.now.slabs (reverse (depot_rounds c.args.self.now)) = search rules in
    KeepsRounds-put c.args.slabs.now.slabs c.loop-magazine.slabs.slabs (reverse (depot_rounds c.args.self.now)) c.cache.ensures.sound put
