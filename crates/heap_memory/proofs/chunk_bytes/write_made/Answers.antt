use Rattle.std.proofs.Common.{ℕ, List, subst}
use Rattle.heap_memory.specs.Chunks.{WritesAt}
use Rattle.heap_memory.proofs.ChunkLemmas.{made_with_guards}
use Rattle.heap_memory.proofs.chunk_bytes.write_made.Goals as goal

pub returns-then-kind-clause-written : goal.returns-then-kind-clause-written
returns-then-kind-clause-written c = λ setting is.
    subst (λ (bytes : List ℕ). WritesAt c.args.space.now c.put_free.new.space c.args.chunk.address bytes)
    (made_with_guards setting c.args.kind.now c.args.chunk.number c.shape_of_kind.result is c.if-kind.true c.shape_of_kind.ensures.value) c.put_free.ensures.written
