use Rattle.std.proofs.Common.{ℕ, refl}
use Rattle.umem_base.specs.declared.span.Span.{Span}
use Rattle.plain_heap.specs.State.{give_back}
use Rattle.heap_memory.proofs.PagesLemmas.{closed}
use Rattle.heap_memory.proofs.StateLemmas.{freed_members}
use Rattle.heap_memory.proofs.ChunkLemmas.{large_bytes}
use Rattle.heap_memory.proofs.memory.Memory.close_large.Goals as goal

pub returns : goal.returns
returns c = λ setting state header is at.
    let run : Span = record { base = c.args.base; pages = c.close_run.ensures.closes.0 } in
    closed setting state (give_back setting state c.args.base) c.args.self.now c.close_run.new.self run header is c.close_run.ensures.was_sound c.close_run.ensures.closes.1
    (λ span. freed_members setting state at.separate c.args.base at.size span at.lives)
    (large_bytes setting state c.args.base at.size header at.separate at.lives)
