use Rattle.std.proofs.Common.{sym, ◌∙◌}
use Rattle.std.proofs.lemmas.Bool.{false≢true}
use Rattle.plain_heap.specs.State.{state_of}
use Rattle.heap_accounts.proofs.HandLemmas.{is_free_chunk, none_numbered, not_free}
use Rattle.heap_accounts.proofs.chunk_calls.free_chunk.Goals as goal

pub returns-in_err-placed : goal.returns-in_err-placed
returns-in_err-placed c setting entries its =
    let state = state_of setting entries in
    rw c.from_residual.ensures (none_numbered setting state c.args.cache c.args.number (c.in_err-placed.ensures.numbered setting state its.header its.are.slabs))

pub returns-then-is_free_of : goal.returns-then-is_free_of
returns-then-is_free_of c setting entries its =
    let state = state_of setting entries in
    is_free_chunk setting state c.args.tables.now.live.buffers c.args.cache c.args.number c.in_ok-placed.placed its.are.buffers (c.in_ok-placed.ensures.numbered setting state its.header its.are.slabs)
    (c.is_free_of.ensures.0 c.if-is_free_of.true)

pub returns-else-is_free_of : goal.returns-else-is_free_of
returns-else-is_free_of c setting entries its =
    let state = state_of setting entries in
    not_free setting entries c.args.tables.now.live.buffers c.args.cache c.args.number c.in_ok-placed.placed its.are.buffers (c.in_ok-placed.ensures.numbered setting state its.header its.are.slabs)
    (λ both. false≢true (sym c.if-is_free_of.false ∙ c.is_free_of.ensures.1 both))
