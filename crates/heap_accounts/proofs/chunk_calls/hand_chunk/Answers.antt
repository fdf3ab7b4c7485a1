use Rattle.std.proofs.Common.{Some, sym, subst}
use Rattle.heap_memory.specs.declared.chunk_kind.ChunkKind.{ChunkKind}
use Rattle.heap_memory.specs.Chunks.{IsRequested}
use Rattle.plain_heap.specs.declared.held.Held.{Held}
use Rattle.plain_heap.specs.State.{hand_out}
use Rattle.heap_accounts.proofs.HandLemmas.{cache_there, chunk_enters, chunk_inside, chunk_there, hands}
use Rattle.heap_accounts.proofs.chunk_calls.hand_chunk.Goals as goal

pub kind-kind-requires : goal.kind-kind-requires
kind-kind-requires c =
    let its = c.requires in
    cache_there c.args.tables.now c.args.request c.args.chunk its.setting its.state its.header its.are its.can

pub hand_chunk-report-requires-clause-request : goal.hand_chunk-report-requires-clause-request
hand_chunk-report-requires-clause-request c =
    let its = c.requires in
    subst (λ (k : ChunkKind). IsRequested k c.args.request.size) (sym (c.kind-kind.ensures.kind its.setting its.state its.header its.are.slabs)) its.can.requested

pub hand_chunk-report-requires-clause-inside : goal.hand_chunk-report-requires-clause-inside
hand_chunk-report-requires-clause-inside c =
    let its = c.requires in
    chunk_inside c.args.tables.now c.args.request c.args.chunk its.setting its.state its.header its.are its.can c.placed_chunks_are_known.ensures c.kind-kind.result.now
    (c.kind-kind.ensures.kind its.setting its.state its.header its.are.slabs) c.chunks_are_inside_of_runs.ensures

pub enter-requires : goal.enter-requires
enter-requires c =
    let its = c.requires in
    chunk_enters c.args.tables.now c.args.request c.args.chunk its.setting its.state its.header its.are its.can c.hand_chunk-report.result its.room

pub put_slot-requires : goal.put_slot-requires
put_slot-requires c =
    let its = c.requires in
    let kind = c.kind-kind.result.now in
    let request = c.args.request in
    let is = c.kind-kind.ensures.kind its.setting its.state its.header its.are.slabs in
    let there = chunk_there c.args.tables.now request c.args.chunk its.setting its.state its.header its.are its.can c.placed_chunks_are_known.ensures kind is in
    let held : Held = record { size = request.size; cache = Some kind.cache } in
    c.slots_are_mapped.ensures c.hand_chunk-report.new.self c.args.thread request.slot its.setting (hand_out its.setting its.state c.args.chunk.address held request.zero) its.header
    (c.hand_chunk-report.ensures.handed its.setting its.state its.header its.are.bytes there) its.within its.slot

pub returns : goal.returns
returns c =
    hands c.args.tables.now c.args.thread c.args.request c.args.chunk c.kind-kind.result.now c.hand_chunk-report.new.self c.put_slot.new.self c.enter.new.live c.enter.new.slabs c.hand_chunk-report.result
    c.placed_chunks_are_known.ensures c.tables_look_at_slabs.ensures c.kind-kind.ensures.kind c.hand_chunk-report.ensures.report c.hand_chunk-report.ensures.handed c.put_slot.ensures
    c.enter.ensures.buffers c.enter.ensures.slabs c.enter.ensures.room
