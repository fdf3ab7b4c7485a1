use Rattle.std.proofs.Common.{arith}
use Rattle.core_rules.proofs.PieceLemmas.{made_more}
use Rattle.plain_heap.specs.State.{grows_of}
use Rattle.heap_ledger.specs.Ledger.{run_state}
use Rattle.heap_pictures.proofs.caches.grows_by_cache.Goals as goal

pub loop-cache-preserved : goal.loop-cache-preserved
loop-cache-preserved c = record {
  made = made_more (grows_of (run_state c.args.accounts.now)) c.loop-cache.cache c.loop-cache.grows.items c.push.new.self.items c.made.result c.in_ok-push.ensures.items c.loop-cache.invariant.made c.made.ensures;
  within = omega (arith, c.loop-cache-test.true);
}
