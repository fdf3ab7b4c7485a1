use Rattle.std.proofs.Common.{ℕ, subst, sym, ◌∙◌, ap}
use Rattle.plain_heap.specs.Bytes.{bytes_from}
use Rattle.heap_memory.specs.Memory.{IsMemoryOf, Memory}
use Rattle.heap_memory.proofs.ChunkLemmas.{bytes_told}
use Rattle.heap_memory.proofs.memory.Memory.chunk_bytes.Goals as goal

pub returns : goal.returns
returns c = λ setting state header is.
    let memory : Memory = record { space = c.self.inside.space; arena = c.self.inside.arena } in
    let was : IsMemoryOf setting state memory = subst (IsMemoryOf setting state) (sym c.self.view_is) is in
    bytes_told setting state memory c.args.chunk.address c.bytes_of_kind.result c.in-Some.bytes.now was c.in-Some.ensures.bytes
    ∙ ap (bytes_from state.bytes c.args.chunk.address) c.bytes_of_kind.ensures.value
