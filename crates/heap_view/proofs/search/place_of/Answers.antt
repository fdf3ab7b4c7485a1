use Rattle.std.proofs.Common.{◌≡◌, ◌+◌, ◌-◌, ◌/◌, ◌∙◌, refl, sym, arith}
use Rattle.std.proofs.lemmas.List.{get_or_default}
use Rattle.heap_view.proofs.SearchLemmas.{found_here, found_nowhere, goes_down, goes_up, last_step}
use Rattle.heap_view.proofs.search.place_of.Goals as goal

pub returns-in-Equal-clause-value : goal.returns-in-Equal-clause-value
returns-in-Equal-clause-value g c =
    sym (found_here c.args.buffers.now c.args.address c.loop-low.low c.loop-low.high (c.loop-low.steps - c.args.steps.now) _ _ c.requires.apart c.loop-low.invariant.searching c.loop-low-test.true refl (get_or_default c.args.buffers.now (c.loop-low.low + (c.loop-low.high - c.loop-low.low) / 2) _ _ (omega (arith, c.loop-low-test.true, c.loop-low.invariant.searching.within))) (sym c.order_of.ensures.order ∙ c.in-Equal.is))

pub returns-in-Equal-clause-bound : goal.returns-in-Equal-clause-bound
returns-in-Equal-clause-bound g c =
    let e : c.order_of.new.steps - c.args.steps.now ≡ c.loop-low.steps - c.args.steps.now + 1 = omega (arith, c.order_of.ensures.step, c.loop-low.invariant.rises) in
    rw e (last_step c.args.buffers.now c.args.address c.loop-low.low c.loop-low.high (c.loop-low.steps - c.args.steps.now) c.loop-low.invariant.searching c.loop-low-test.true)

pub loop-low-preserved-in-Less : goal.loop-low-preserved-in-Less
loop-low-preserved-in-Less g c =
    let e : c.order_of.new.steps - c.args.steps.now ≡ c.loop-low.steps - c.args.steps.now + 1 = omega (arith, c.order_of.ensures.step, c.loop-low.invariant.rises) in
    record {
      searching = rw e (goes_up c.args.buffers.now c.args.address c.loop-low.low c.loop-low.high (c.loop-low.steps - c.args.steps.now) _ _ c.requires.apart c.loop-low.invariant.searching c.loop-low-test.true refl (get_or_default c.args.buffers.now (c.loop-low.low + (c.loop-low.high - c.loop-low.low) / 2) _ _ (omega (arith, c.loop-low-test.true, c.loop-low.invariant.searching.within))) (sym c.order_of.ensures.order ∙ c.in-Less.is));
      rises = omega (arith, c.order_of.ensures.step, c.loop-low.invariant.rises);
    }

pub loop-low-preserved : goal.loop-low-preserved
loop-low-preserved g c =
    let e : c.order_of.new.steps - c.args.steps.now ≡ c.loop-low.steps - c.args.steps.now + 1 = omega (arith, c.order_of.ensures.step, c.loop-low.invariant.rises) in
    record {
      searching = rw e (goes_down c.args.buffers.now c.args.address c.loop-low.low c.loop-low.high (c.loop-low.steps - c.args.steps.now) _ _ c.requires.apart c.loop-low.invariant.searching c.loop-low-test.true refl (get_or_default c.args.buffers.now (c.loop-low.low + (c.loop-low.high - c.loop-low.low) / 2) _ _ (omega (arith, c.loop-low-test.true, c.loop-low.invariant.searching.within))) (sym c.order_of.ensures.order ∙ c.in-Greater.is));
      rises = omega (arith, c.order_of.ensures.step, c.loop-low.invariant.rises);
    }

pub returns-clause-value : goal.returns-clause-value
returns-clause-value g c = sym (found_nowhere c.args.buffers.now c.args.address c.loop-low.low c.loop-low.high (c.loop-low.steps - c.args.steps.now) c.loop-low.invariant.searching c.loop-low-test.false)
