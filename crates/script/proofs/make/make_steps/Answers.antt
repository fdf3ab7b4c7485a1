use Rattle.std.proofs.Common.{◌≡◌, ℕ, ◌-◌, ◌%◌, ◌<◌, List, [], ◌∷◌, get_or, length, refl, ap, ◌∙◌, arith}
use Rattle.std.proofs.lemmas.List.{get_or-replicate}
use Rattle.std.proofs.Math.ListN.{length-set}
use Rattle.script.specs.Generated.{drawn_slot, drawn_turns, draws, size_behind, size_held}
use Rattle.script.proofs.MadeLemmas.{sizes_more, turns_more}
use Rattle.script.proofs.make.make_steps.Goals as goal

pub loop-made-init : goal.loop-made-init
loop-made-init c =
    let left : c.args.ops - 0 ≡ c.args.ops = omega arith in
    record {
      before = [];
      len = refl;
      sizes = λ k lt. get_or-replicate 64 k 0 0 lt;
      turns = rw (c.new-steps.ensures.items, left) refl;
    }

pub loop-made-preserved : goal.loop-made-preserved
loop-made-preserved c =
    let before : List ℕ = c.loop-made.invariant.before in
    let draw : ℕ = c.draw_of.result in
    let held : ℕ = get_or c.loop-made.sizes (draw % 64) 0 in
    let place : draw % 64 < 64 = omega arith in
    let is_held : held ≡ size_held before (drawn_slot draw) = c.loop-made.invariant.sizes (draw % 64) place in
    record {
      before = draw ∷ before;
      len = ap length c.take_draw-op.ensures.sizes ∙ length-set c.loop-made.sizes (draw % 64) (size_behind held draw) ∙ c.loop-made.invariant.len;
      sizes = sizes_more before c.loop-made.sizes c.take_draw-op.new.sizes draw held c.loop-made.invariant.len c.loop-made.invariant.sizes refl c.take_draw-op.ensures.sizes;
      turns = turns_more before c.loop-made.state c.next_state-state.result draw c.args.ops c.loop-made._made held c.loop-made.steps.items c.push.new.self.items c.make_step.result c.take_draw-op.result (drawn_turns [] (draws c.args.seed c.args.ops)) c.loop-made-test.true
          c.loop-made.invariant.turns c.next_state-state.ensures c.draw_of.ensures is_held c.take_draw-op.ensures.op c.make_step.ensures c.in_ok-push.ensures.items;
    }
