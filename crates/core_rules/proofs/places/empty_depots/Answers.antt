use Rattle.std.proofs.Common.{refl, arith}
use Rattle.core_rules.specs.Pieces.{empty_depot}
use Rattle.core_rules.proofs.PieceLemmas.{made_more}
use Rattle.core_rules.proofs.places.empty_depots.Goals as goal

pub loop-preserved : goal.loop-preserved
loop-preserved c = record {
  made = made_more empty_depot c.loop.counter c.loop.depots.items c.push.new.self.items _ c.in_ok-push.ensures.items c.loop.invariant.made (rw (c.new-in-loop.ensures, c.new.ensures.items) refl);
  within = omega (arith, c.loop-test.true);
}
