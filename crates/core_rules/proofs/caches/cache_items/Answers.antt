use Rattle.std.proofs.Common.{refl, arith}
use Rattle.core_rules.specs.Pieces.{cache_item}
use Rattle.core_rules.proofs.PieceLemmas.{made_more}
use Rattle.core_rules.proofs.caches.cache_items.Goals as goal

pub loop-cache-preserved : goal.loop-cache-preserved
loop-cache-preserved c = record {
  made = made_more (cache_item c.args.declared.now c.args.grows.now) c.loop-cache.cache c.loop-cache.items.items c.push.new.self.items _ c.in_ok-push.ensures.items c.loop-cache.invariant.made (rw c.in_ok-def.ensures refl);
  within = omega (arith, c.loop-cache-test.true);
}
