use Rattle.std.proofs.Common.{ℕ, List, subst}
use Rattle.heap_memory.specs.Chunks.{WritesAt}
use Rattle.heap_memory.proofs.ChunkLemmas.{handed_with_guards, request_in_run, requested_fits}
use Rattle.heap_memory.proofs.chunk_bytes.write_handed.Goals as goal

pub put_same-requires-clause-some : goal.put_same-requires-clause-some
put_same-requires-clause-some c = (requested_fits c.args.kind.now c.args.requested c.requires.kind c.requires.request).0

pub put_same-requires-clause-inside : goal.put_same-requires-clause-inside
put_same-requires-clause-inside c = request_in_run _ c.args.chunk.address c.args.requested c.args.kind.now c.requires.kind c.requires.request c.requires.inside

pub returns-then-kind-clause-written : goal.returns-then-kind-clause-written
returns-then-kind-clause-written c = λ setting is.
    subst (λ (bytes : List ℕ). WritesAt c.args.space.now c.put_allocated.new.space c.args.chunk.address bytes)
    (handed_with_guards setting c.args.kind.now c.args.chunk.number c.args.requested c.args.zero c.shape_of_kind-shape.result is c.if-kind.true c.shape_of_kind-shape.ensures.value)
    c.put_allocated.ensures.written
