use Rattle.std.proofs.Common.{◌∙◌, List, sym, subst}
use Rattle.std.specs.List.{All}
use Rattle.heap_view.specs.declared.buffer.Buffer.{Buffer}
use Rattle.heap_view.specs.Points.{AreBuffersApart, FitsAddresses}
use Rattle.heap_view.proofs.BuffersLemmas.{buffers_apart, buffers_fit}
use Rattle.heap_view.proofs.view.View.buffer_at.Goals as goal

pub place_of-requires-clause-apart : goal.place_of-requires-clause-apart
place_of-requires-clause-apart g c = subst AreBuffersApart (sym (c.deref.ensures.value ∙ c.self.invariant.buffers_are)) (buffers_apart c.self.inside.core c.self.invariant.laid_out)

pub place_of-requires-clause-fit : goal.place_of-requires-clause-fit
place_of-requires-clause-fit g c = subst (λ (xs : List Buffer). All FitsAddresses xs) (sym (c.deref.ensures.value ∙ c.self.invariant.buffers_are)) (buffers_fit c.self.inside.core c.self.invariant.laid_out)
