use Rattle.std.proofs.Common.{◌+◌, ap, arith, ◌∙◌}
use Rattle.core_format.specs.declared.whole.Core.{Core}
use Rattle.heap_view.specs.Buffers.{buffers_of}
use Rattle.findleaks.proofs.FollowLemmas.{own_front, own_step, own_step_length}
use Rattle.findleaks.proofs.follow.follow_own.Goals as goal

pub loop-own-preserved : goal.loop-own-preserved
loop-own-preserved g c =
    let own = c.args.view.now.own in
    let same = c.as_slice-own-items.ensures ∙ ap (λ (core : Core). core.own) c.core.ensures.value in
    record {
      found = own_step (buffers_of c.args.view.now) c.args.found.now c.loop-own.found c.follow_words.new.found own c.as_slice-own-items.result.now c.as_slice.result.now c.loop-own.own-index c.own-item.result same c.as_slice.ensures c.own-item.is c.loop-own-test.true c.loop-own.invariant.found c.in_ok-follow_words.ensures.found;
      consistent = c.in_ok-follow_words.ensures.consistent;
      counted = omega (arith, c.loop-own.invariant.counted, c.in_ok-follow_words.ensures.looked_up, own_step_length own c.as_slice-own-items.result.now c.as_slice.result.now c.loop-own.own-index c.own-item.result same c.as_slice.ensures c.own-item.is c.loop-own-test.true);
    }

pub returns-in_err-follow_words-clause-bound : goal.returns-in_err-follow_words-clause-bound
returns-in_err-follow_words-clause-bound g c =
    let own = c.args.view.now.own in
    let same = c.as_slice-own-items.ensures ∙ ap (λ (core : Core). core.own) c.core.ensures.value in
    omega (arith, c.loop-own.invariant.counted, c.follow_words.ensures.bound, own_front own (c.loop-own.own-index + 1), own_step_length own c.as_slice-own-items.result.now c.as_slice.result.now c.loop-own.own-index c.own-item.result same c.as_slice.ensures c.own-item.is c.loop-own-test.true)
