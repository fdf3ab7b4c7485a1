use Rattle.std.proofs.Common.{ℕ, subst}
use Rattle.plain_heap.specs.State.{give_back, state_of}
use Rattle.plain_heap.proofs.SeparateLemmas.{history_is_separate}
use Rattle.heap_memory.specs.Memory.{IsMemoryOf}
use Rattle.heap_accounts.proofs.FoundLemmas.{chunk_for, inside_for, known_at, large_at}
use Rattle.heap_accounts.proofs.frees.take_back.Goals as goal

pub close_large-requires : goal.close_large-requires
close_large-requires c =
    let its = c.requires.its in
    let setting = c.requires.setting in
    let state = state_of setting c.requires.entries in
    c.large_buffers_have_a_span.ensures c.args.tables.now.memory c.args.address setting state its.header its.are.bytes
    (large_at setting c.requires.entries c.args.tables.now c.args.address c.chunks_are_known_by_their_places.ensures its c.requires.lives
    (c.in-None.ensures.placed setting state its.header its.are.slabs))

pub take_back_chunk-requires-clause-inside : goal.take_back_chunk-requires-clause-inside
take_back_chunk-requires-clause-inside c =
    let its = c.requires.its in
    let setting = c.requires.setting in
    let state = state_of setting c.requires.entries in
    inside_for setting state c.args.address c.args.tables.now.memory c.in-Some.placed c.kind-kind.result.now c.chunks_are_inside_of_runs.ensures its.header its.are.bytes
    (c.in-Some.ensures.placed setting state its.header its.are.slabs) (c.kind-kind.ensures.kind setting state its.header its.are.slabs)

pub returns-in-None-clause-memory : goal.returns-in-None-clause-memory
returns-in-None-clause-memory c setting entries its =
    let state = state_of setting entries in
    c.close_large.ensures setting state its.header its.are.bytes
    (large_at setting entries c.args.tables.now c.args.address c.chunks_are_known_by_their_places.ensures its c.requires.lives (c.in-None.ensures.placed setting state its.header its.are.slabs))

pub returns-in-Some-clause-memory : goal.returns-in-Some-clause-memory
returns-in-Some-clause-memory c setting entries its =
    let state = state_of setting entries in
    let placed = c.in-Some.placed in
    let found = c.in-Some.ensures.placed setting state its.header its.are.slabs in
    let there = chunk_for setting state c.args.address placed c.kind-kind.result.now found (c.kind-kind.ensures.kind setting state its.header its.are.slabs) in
    subst (λ (a : ℕ). IsMemoryOf setting (give_back setting state a) c.take_back_chunk.new.self) (known_at setting state c.args.address placed found).1
    (c.take_back_chunk.ensures setting state its.header its.are.bytes (history_is_separate setting entries its.header its.legal, there))
