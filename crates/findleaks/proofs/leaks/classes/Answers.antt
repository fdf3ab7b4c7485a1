use Rattle.std.proofs.Common.{◌≡◌, ◌+◌, arith}
use Rattle.std.proofs.lemmas.Result.{IfOk-weaker}
use Rattle.heap_view.specs.Buffers.{buffers_of}
use Rattle.heap_view.proofs.BytesLemmas.{root_words_count}
use Rattle.findleaks.specs.Classes.{AreParted, look_ups}
use Rattle.findleaks.proofs.ClassesLemmas.{marked_cost, settled_marks}
use Rattle.findleaks.proofs.FollowLemmas.{roots_sound, settled, start_consistent}
use Rattle.findleaks.proofs.leaks.classes.Goals as goal

pub follow_roots-requires : goal.follow_roots-requires
follow_roots-requires g c = start_consistent (buffers_of c.args.view.now) c.buffers.result.now c.in_ok-found.found c.buffers.ensures c.in_ok-found.ensures

pub returns-in_err-follow_roots-clause-bound : goal.returns-in_err-follow_roots-clause-bound
returns-in_err-follow_roots-clause-bound g c = omega (arith, c.follow_roots.ensures.bound, root_words_count c.args.view.now c.core.ensures.laid_out)

pub spread-requires-clause-sound : goal.spread-requires-clause-sound
spread-requires-clause-sound g c =
    roots_sound c.args.view.now c.buffers.result.now c.in_ok-found.found c.follow_roots.new.found c.buffers.ensures c.in_ok-found.ensures c.in_ok-follow_roots.ensures.found

pub returns-in_err-spread-clause-bound : goal.returns-in_err-spread-clause-bound
returns-in_err-spread-clause-bound g c = omega (arith, c.follow_roots.ensures.bound, c.spread.ensures.bound, root_words_count c.args.view.now c.core.ensures.laid_out)

pub part-requires-clause-settled : goal.part-requires-clause-settled
part-requires-clause-settled g c =
    settled c.args.view.now c.buffers.result.now c.in_ok-found.found c.follow_roots.new.found c.spread.new.found c.buffers.ensures c.in_ok-found.ensures c.in_ok-follow_roots.ensures.found
    (c.buffers_are_apart.ensures.allocated c.args.view.now c.core.ensures.laid_out) c.in_ok-spread.ensures.found

pub returns-clause-bound : goal.returns-clause-bound
returns-clause-bound g c = omega (arith, c.follow_roots.ensures.bound, c.spread.ensures.bound, root_words_count c.args.view.now c.core.ensures.laid_out)

pub returns-clause-looked_up : goal.returns-clause-looked_up
returns-clause-looked_up g c =
    let core = c.args.view.now in
    let last = c.spread.new.found in
    let is = settled core c.buffers.result.now c.in_ok-found.found c.follow_roots.new.found last c.buffers.ensures c.in_ok-found.ensures c.in_ok-follow_roots.ensures.found
    (c.buffers_are_apart.ensures.allocated core c.core.ensures.laid_out) c.in_ok-spread.ensures.found in
    let marks = settled_marks core last c.in_ok-spread.ensures.found.consistent is in
    IfOk-weaker c.part.result (λ classes. AreParted core (buffers_of core) classes.reached classes.leaked) (λ classes. c.spread.new.steps ≡ c.args.steps.now + look_ups core classes.reached)
    (λ classes parted. omega (arith, c.in_ok-follow_roots.ensures.looked_up, c.in_ok-spread.ensures.looked_up, root_words_count core c.core.ensures.laid_out, marked_cost core (buffers_of core) classes.reached classes.leaked last.marks marks parted)) c.part.ensures
