use Rattle.std.proofs.Common.{subst, sym, ◌∙◌}
use Rattle.heap_memory.specs.Memory.{IsMemoryOf, Memory}
use Rattle.heap_memory.proofs.ChunkLemmas.{finding_told}
use Rattle.heap_memory.proofs.memory.Memory.finding.Goals as goal

pub returns : goal.returns
returns c = λ setting state header is at.
    let memory : Memory = record { space = c.self.inside.space; arena = c.self.inside.arena } in
    let was : IsMemoryOf setting state memory = subst (IsMemoryOf setting state) (sym c.self.view_is) is in
    c.first_broken.ensures
    ∙ finding_told setting state memory c.args.kind.now c.args.chunk c.args.state c.shape_of_kind-shape.result c.in-Some.bytes.now was at c.if-not-kind.false
    c.shape_of_kind-shape.ensures.value c.in-Some.ensures.bytes
