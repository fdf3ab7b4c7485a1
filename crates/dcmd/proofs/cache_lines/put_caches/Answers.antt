use Rattle.std.proofs.Common.{◌≡◌, ◌<◌, ◌∙◌, List, length, get_or, ap, arith}
use Rattle.core_format.specs.declared.items.CacheItem.{CacheItem}
use Rattle.dcmd.proofs.CountLemmas.{line_more}
use Rattle.dcmd.proofs.cache_lines.put_caches.Goals as goal

pub loop-index-preserved : goal.loop-index-preserved
loop-index-preserved c =
    let core = c.args.core.now in
    let item = c.item-item.result in
    let index = c.loop-index.index in
    let lt : index < length core.caches = omega (arith, ap length c.as_slice-item-items.ensures, c.loop-index-test.true) in
    let is : item ≡ get_or core.caches index item = c.item-item.is ∙ ap (λ (items : List CacheItem). get_or items index item) c.as_slice-item-items.ensures in
    let put = c.in_ok-put_cache.ensures in
    line_more core index item (get_or c.args.counts.now index 0) c.args.out.now c.loop-index.out c.put_cache.new.out lt is (c.requires.counted index lt) c.loop-index.invariant put
