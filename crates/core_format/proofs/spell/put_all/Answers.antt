use Rattle.core_format.proofs.PutLemmas.{put_done, put_more}
use Rattle.core_format.proofs.spell.put_all.Goals as goal

pub loop-item-preserved : goal.loop-item-preserved
loop-item-preserved g c = put_more g.T.Spell.spelled c.args.items.now c.loop-item.item-index c.item-item.result _ _ _ c.loop-item-test.true c.item-item.is c.in_ok-put.ensures c.loop-item.invariant

pub returns : goal.returns
returns g c = put_done g.T.Spell.spelled c.args.items.now c.loop-item.item-index _ _ c.loop-item-test.false c.loop-item.invariant
