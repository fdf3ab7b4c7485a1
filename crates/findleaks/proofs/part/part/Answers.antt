use Rattle.std.proofs.Common.{sym, ◌∙◌}
use Rattle.findleaks.proofs.ClassesLemmas.{part_leaked, part_reached}
use Rattle.findleaks.proofs.part.part.Goals as goal
use Rattle.findleaks.proofs.part.part.Goals.{then-is_marked+in_ok-push, else-is_marked+in_ok-push-2}

pub loop-index-preserved : goal.loop-index-preserved
loop-index-preserved c =
    elim c.if-is_marked.branch [
      | then-is_marked+in_ok-push w ↦ rw (w.reached-is, w.leaked-is) (part_reached c.args.view.now c.args.found.now c.buffers-buffer-items.result.now c.loop-index.reached.items c.loop-index.leaked.items _ c.loop-index.index _ c.buffers-buffer-items.ensures c.requires.settled c.loop-index.invariant c.loop-index-test.true (sym c.is_marked.ensures ∙ w.if-is_marked.true) w.in_ok-push.ensures.items)
      | else-is_marked+in_ok-push-2 w ↦ rw (w.reached-is, w.leaked-is) (part_leaked c.args.view.now c.args.found.now c.buffers-buffer-items.result.now c.loop-index.reached.items c.loop-index.leaked.items _ c.loop-index.index _ c.buffers-buffer-items.ensures c.requires.settled c.loop-index.invariant c.loop-index-test.true (sym c.is_marked.ensures ∙ w.if-is_marked.false) w.in_ok-push-2.ensures.items)
    ]
