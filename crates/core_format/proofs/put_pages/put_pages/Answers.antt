use Rattle.core_format.proofs.PutLemmas.{put_pages_done, put_pages_more}
use Rattle.core_format.proofs.put_pages.put_pages.Goals as goal

pub loop-slab-preserved : goal.loop-slab-preserved
loop-slab-preserved c = put_pages_more c.args.slabs.now c.loop-slab.slab-index c.lower_count.result c.slab-item.result c.loop-slab.left.now _ _ c.loop-slab.out.items c.put_large_bytes.new.out.items _ _ c.loop-slab-test.true c.slab-item.is c.lower_count.ensures.value c.split_at.ensures.front c.split_at.ensures.back c.in_ok-put_large_bytes.ensures (rw c.as_slice.ensures at c.in_ok-extend_from_slice.ensures.items) c.loop-slab.invariant

pub returns : goal.returns
returns c = put_pages_done c.put_large_bytes-2.result c.args.slabs.now c.loop-slab.slab-index c.loop-slab.left.now c.loop-slab.out.items _ _ c.loop-slab-test.false c.put_large_bytes-2.ensures c.loop-slab.invariant
