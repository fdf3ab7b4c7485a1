use Rattle.core_format.specs.Spelling.{spelled_cache}
use Rattle.core_format.proofs.PutLemmas.{put_done, put_more}
use Rattle.core_format.proofs.put_caches.put_caches.Goals as goal

pub loop-item-preserved : goal.loop-item-preserved
loop-item-preserved c = put_more (spelled_cache c.args.version) c.args.caches.now c.loop-item.item-index c.item-item.result _ _ _ c.loop-item-test.true c.item-item.is c.in_ok-put_cache.ensures c.loop-item.invariant

pub returns : goal.returns
returns c = put_done (spelled_cache c.args.version) c.args.caches.now c.loop-item.item-index _ _ c.loop-item-test.false c.loop-item.invariant
