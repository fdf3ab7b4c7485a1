use Rattle.std.proofs.Common.{refl, arith}
use Rattle.core_rules.specs.Pieces.{empty_place}
use Rattle.core_rules.proofs.PieceLemmas.{made_more}
use Rattle.core_rules.proofs.places.empty_places.Goals as goal

pub loop-index-preserved : goal.loop-index-preserved
loop-index-preserved c = record {
  made = made_more (empty_place c.args.caches) c.loop-index.index c.loop-index.places.items c.push.new.self.items _ c.in_ok-push.ensures.items c.loop-index.invariant.made (rw (c.no_rounds.ensures, c.no_rounds-in-loop-index.ensures) refl);
  within = omega (arith, c.loop-index-test.true);
}
