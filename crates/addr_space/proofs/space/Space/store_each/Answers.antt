use Rattle.std.proofs.Common.{get_or, refl}
use Rattle.addr_space.proofs.SpaceLemmas.{IsMappedRange-rest, Writes-more}
use Rattle.addr_space.proofs.space.Space.store_each.Goals as goal

pub put-requires : goal.put-requires
put-requires c =
    IsMappedRange-rest c.args.self.now c.loop-offset.self c.args.at c.loop-offset.offset _ (λ k. get_or c.args.bytes.now k 0) c.requires.mapped c.loop-offset.invariant c.loop-offset-test.true

pub loop-offset-preserved : goal.loop-offset-preserved
loop-offset-preserved c =
    Writes-more c.args.self.now c.loop-offset.self c.put.new.self c.args.at c.loop-offset.offset (get_or c.args.bytes.now c.loop-offset.offset 0) (λ k. get_or c.args.bytes.now k 0) c.loop-offset.invariant c.put.ensures refl
