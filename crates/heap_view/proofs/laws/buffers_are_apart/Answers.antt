use Rattle.std.proofs.Common.{◌<◌}
use Rattle.std.proofs.lemmas.List.Elements.{All-weaker}
use Rattle.heap_view.specs.Buffers.{buffers_of}
use Rattle.heap_view.proofs.BuffersLemmas.{IsSoundBuffer, buffers_apart, buffers_fit, buffers_sound, free_apart}
use Rattle.heap_view.proofs.laws.buffers_are_apart.Goals as goal

pub returns-clause-allocated : goal.returns-clause-allocated
returns-clause-allocated c = buffers_apart

pub returns-clause-allocated_fit : goal.returns-clause-allocated_fit
returns-clause-allocated_fit c = buffers_fit

pub returns-clause-some : goal.returns-clause-some
returns-clause-some c = λ core laid. All-weaker (IsSoundBuffer core) (λ buffer. 0 < buffer.size) (λ b h. h.0) (buffers_of core) (buffers_sound core laid)

pub returns-clause-free : goal.returns-clause-free
returns-clause-free c = free_apart
