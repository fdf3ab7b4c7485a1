use Rattle.std.proofs.Common.{ℕ, List}
use Rattle.core_format.specs.declared.items.LargeItem.{LargeItem}
use Rattle.core_format.proofs.PutLemmas.{put_done, put_more}
use Rattle.core_format.proofs.put_pages.put_large_bytes.Goals as goal

bytes : LargeItem → List ℕ
bytes item = item.bytes

pub loop-item-preserved : goal.loop-item-preserved
unfolding bytes
loop-item-preserved c = put_more bytes c.args.large.now c.loop-item.item-index c.item-item.result _ _ _ c.loop-item-test.true c.item-item.is (rw c.as_slice.ensures at c.in_ok-extend_from_slice.ensures.items) c.loop-item.invariant

pub returns : goal.returns
unfolding bytes
returns c = put_done bytes c.args.large.now c.loop-item.item-index _ _ c.loop-item-test.false c.loop-item.invariant
