use Rattle.std.proofs.Common.{◌≡◌, ℕ, ◌+◌, ◌∙◌, length, ap, subst, arith}
use Rattle.heap_view.specs.Buffers.{buffers_of}
use Rattle.findleaks.specs.Follow.{IsSearched}
use Rattle.findleaks.proofs.FollowLemmas.{Contains-slice_get, cost_at, cost_so_far, cost_within, found_cost, found_few, index_within, search_start, step_at}
use Rattle.findleaks.proofs.follow.spread.Goals as goal

pub loop-next-init : goal.loop-next-init
loop-next-init g c = record {
  searched = search_start c.args.view.now c.args.found.now c.requires.consistent c.requires.sound;
  counted = omega arith;
}

pub buffer_of-buffer-requires : goal.buffer_of-buffer-requires
buffer_of-buffer-requires g c = index_within c.args.view.now c.args.found.now c.loop-next.found c.loop-next.next c.at.result c.loop-next.invariant.searched c.at.ensures

pub follow_buffer-requires-clause-consistent : goal.follow_buffer-requires-clause-consistent
follow_buffer-requires-clause-consistent g c = c.loop-next.invariant.searched.consistent

pub follow_buffer-requires-clause-allocated : goal.follow_buffer-requires-clause-allocated
follow_buffer-requires-clause-allocated g c = Contains-slice_get (buffers_of c.args.view.now) c.at.result c.buffer_of-buffer.result c.buffer_of-buffer.ensures

pub returns-in_err-follow_buffer-clause-bound : goal.returns-in_err-follow_buffer-clause-bound
returns-in_err-follow_buffer-clause-bound g c =
    omega (arith, c.loop-next.invariant.counted, c.follow_buffer.ensures.bound, cost_within c.args.view.now c.args.found.now c.loop-next.found c.loop-next.next c.at.result c.buffer_of-buffer.result c.loop-next.invariant.searched c.at.ensures c.buffer_of-buffer.ensures)

pub loop-next-smaller : goal.loop-next-smaller
loop-next-smaller g c =
    omega (arith, found_few (length (buffers_of c.args.view.now)) c.loop-next.found c.loop-next.invariant.searched.consistent, c.loop-next-test.true, c.len.ensures)

pub loop-next-preserved : goal.loop-next-preserved
loop-next-preserved g c = record {
  searched = step_at c.args.view.now c.args.found.now c.loop-next.found c.follow_buffer.new.found c.loop-next.next c.at.result c.buffer_of-buffer.result c.loop-next.invariant.searched c.at.ensures c.buffer_of-buffer.ensures c.in_ok-follow_buffer.ensures.found;
  counted = omega (arith, c.loop-next.invariant.counted, c.in_ok-follow_buffer.ensures.looked_up, cost_at c.args.view.now c.args.found.now c.loop-next.found c.follow_buffer.new.found c.loop-next.next c.at.result c.buffer_of-buffer.result c.loop-next.invariant.searched c.at.ensures c.buffer_of-buffer.ensures c.in_ok-follow_buffer.ensures.found);
}

pub returns-clause-found : goal.returns-clause-found
returns-clause-found g c =
    let searched = c.loop-next.invariant.searched in
    let all : c.loop-next.next ≡ length c.loop-next.found.order = omega (arith, searched.within, c.loop-next-test.false, c.len.ensures) in
    subst (λ (n : ℕ). IsSearched c.args.view.now c.args.found.now c.loop-next.found n) all searched

pub returns-clause-bound : goal.returns-clause-bound
returns-clause-bound g c = omega (arith, c.loop-next.invariant.counted, cost_so_far c.args.view.now c.args.found.now c.loop-next.found c.loop-next.next c.loop-next.invariant.searched)

pub returns-clause-looked_up : goal.returns-clause-looked_up
returns-clause-looked_up g c =
    let buffers = buffers_of c.args.view.now in
    let searched = c.loop-next.invariant.searched in
    let all : c.loop-next.next ≡ length c.loop-next.found.order = omega (arith, searched.within, c.loop-next-test.false, c.len.ensures) in
    c.loop-next.invariant.counted ∙ ap (λ (n : ℕ). c.args.steps.now + n) (found_cost buffers c.loop-next.found c.loop-next.next searched.consistent all)
