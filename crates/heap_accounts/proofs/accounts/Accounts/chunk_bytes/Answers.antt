use Rattle.std.proofs.Common.{◌≡◌, ◌<◌, ℕ, sym, ap, ◌∙◌, subst}
use Rattle.plain_heap.specs.Bytes.{bytes_from}
use Rattle.plain_heap.proofs.SeparateLemmas.{history_is_separate}
use Rattle.heap_ledger.specs.Ledger.{Ledger, run_setting, run_state}
use Rattle.heap_memory.specs.declared.chunk_kind.ChunkKind.{ChunkKind}
use Rattle.heap_memory.specs.Chunks.{HoldsChunk, IsChunkAt, bytes_of_kind, kind_in}
use Rattle.heap_slabs.specs.Chunks.{IsAtItsPlace}
use Rattle.heap_accounts.proofs.ReadLemmas.{cache_there}
use Rattle.heap_accounts.proofs.accounts.Accounts.chunk_bytes.Goals as goal

pub kind-kind-requires : goal.kind-kind-requires
kind-kind-requires c =
    let ledger = c.self.inside.ledger in
    let placed = c.args.placed.now in
    let at = subst (λ (l : Ledger). IsAtItsPlace (run_setting l) (run_state l) placed) (sym c.self.view_is) c.requires in
    subst (λ (n : ℕ). placed.cache < n) (sym c.self.invariant.are.slabs.count) (cache_there ledger placed c.self.invariant.legal at)

pub chunk_bytes-requires-clause-inside : goal.chunk_bytes-requires-clause-inside
chunk_bytes-requires-clause-inside c =
    let ledger = c.self.inside.ledger in
    let setting = run_setting ledger in
    let state = run_state ledger in
    let placed = c.args.placed.now in
    let header = c.self.invariant.legal.plan.header in
    let at = subst (λ (l : Ledger). IsAtItsPlace (run_setting l) (run_state l) placed) (sym c.self.view_is) c.requires in
    let known = c.placed_chunks_are_known.ensures setting state placed header (history_is_separate setting ledger.entries header c.self.invariant.legal.legal) at in
    let kind = c.kind-kind.ensures.kind setting state header c.self.invariant.are.slabs in
    c.chunks_are_inside_of_runs.ensures c.self.inside.tables.memory c.kind-kind.result.now placed.chunk setting state header c.self.invariant.are.bytes
    (subst (λ (k : ChunkKind). IsChunkAt k placed.chunk setting state) (sym kind) known)

pub returns : goal.returns
returns c =
    let ledger = c.self.inside.ledger in
    let setting = run_setting ledger in
    let state = run_state ledger in
    let placed = c.args.placed.now in
    let header = c.self.invariant.legal.plan.header in
    let kind = c.kind-kind.ensures.kind setting state header c.self.invariant.are.slabs in
    subst (λ (l : Ledger). c.chunk_bytes.result.now ≡ bytes_from (run_state l).bytes placed.chunk.address (bytes_of_kind (kind_in (run_setting l) placed.cache))) c.self.view_is
    (c.chunk_bytes.ensures setting state header c.self.invariant.are.bytes ∙ ap (λ (k : ChunkKind). bytes_from state.bytes placed.chunk.address (bytes_of_kind k)) kind)
