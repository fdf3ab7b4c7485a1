use Rattle.std.proofs.Common.{ℕ, refl}
use Rattle.umem_base.specs.declared.span.Span.{Span}
use Rattle.plain_heap.specs.State.{after_shrink}
use Rattle.heap_memory.proofs.PagesLemmas.{closed}
use Rattle.heap_memory.proofs.StateLemmas.{shrunk_members}
use Rattle.heap_memory.proofs.memory.Memory.close_slab.Goals as goal

pub returns : goal.returns
returns c = λ setting state header is at.
    let run : Span = record { base = c.args.base; pages = c.close_run.ensures.closes.0 } in
    closed setting state (after_shrink state c.args.base) c.args.self.now c.close_run.new.self run header is c.close_run.ensures.was_sound c.close_run.ensures.closes.1
    (λ span. shrunk_members setting state at.separate at.slab c.args.base span at.stands at.there)
    (λ a. refl)
