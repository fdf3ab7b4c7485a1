use Rattle.std.proofs.Common.{List, subst, sym}
use Rattle.umem_base.specs.declared.span.Span.{Span}
use Rattle.heap_memory.specs.Memory.{IsMemoryOf, Memory}
use Rattle.heap_memory.specs.States.{AreSpansOf}
use Rattle.heap_memory.proofs.memory.Memory.spans.Goals as goal

pub returns-clause-exactly : goal.returns-clause-exactly
returns-clause-exactly c = λ setting state header is.
    let memory : Memory = record { space = c.self.inside.space; arena = c.self.inside.arena } in
    let was : IsMemoryOf setting state memory = subst (IsMemoryOf setting state) (sym c.self.view_is) is in
    subst (λ (spans : List Span). AreSpansOf setting state spans) (sym c.spans.ensures.spans) was.spans
