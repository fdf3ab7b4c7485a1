use Rattle.std.proofs.Common.{◌*◌, subst, sym}
use Rattle.umem_base.specs.declared.pages.TheConstants.{PAGE_BYTES}
use Rattle.heap_memory.specs.Memory.{IsMemoryOf, Memory}
use Rattle.heap_memory.proofs.ChunkLemmas.{bytes_told}
use Rattle.heap_memory.proofs.memory.Memory.span_bytes.Goals as goal

pub returns : goal.returns
returns c = λ setting state header is.
    let memory : Memory = record { space = c.self.inside.space; arena = c.self.inside.arena } in
    let was : IsMemoryOf setting state memory = subst (IsMemoryOf setting state) (sym c.self.view_is) is in
    bytes_told setting state memory c.args.span.base (PAGE_BYTES * c.args.span.pages) c.in-Some.bytes.now was c.in-Some.ensures.bytes
