use Rattle.yardstick.specs.Kept.{bytes_written}
use Rattle.yardstick.proofs.WritesLemmas.{bytes_more}
use Rattle.yardstick.proofs.bytes.bytes_left.Goals as goal

pub loop-k-preserved : goal.loop-k-preserved
loop-k-preserved c =
    bytes_more (bytes_written c.args.setting.now c.args.writes.now) c.args.at c.loop-k.k c.from.result c.byte_left.result c.loop-k.bytes.items
    c.push.new.self.items c.loop-k.invariant c.from.ensures c.byte_left.ensures c.in_ok-push.ensures.items
