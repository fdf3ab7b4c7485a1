use Rattle.std.proofs.Common.{◌∙◌}
use Rattle.plain_heap.specs.State.{state_of}
use Rattle.heap_accounts.proofs.FoundLemmas.{chunk_for, finding_for, inside_for}
use Rattle.heap_accounts.proofs.frees.has_finding.Goals as goal

pub finding-requires-clause-inside : goal.finding-requires-clause-inside
finding-requires-clause-inside c =
    let its = c.requires.its in
    let setting = c.requires.setting in
    let state = state_of setting c.requires.entries in
    inside_for setting state c.args.address c.args.tables.now.memory c.in-Some.placed c.kind-kind.result.now c.chunks_are_inside_of_runs.ensures its.header its.are.bytes
    (c.in-Some.ensures.placed setting state its.header its.are.slabs) (c.kind-kind.ensures.kind setting state its.header its.are.slabs)

pub returns : goal.returns
returns c setting entries its =
    let state = state_of setting entries in
    let placed = c.in-Some.placed in
    let found = c.in-Some.ensures.placed setting state its.header its.are.slabs in
    let there = chunk_for setting state c.args.address placed c.kind-kind.result.now found (c.kind-kind.ensures.kind setting state its.header its.are.slabs) in
    c.is_some.ensures ∙ finding_for setting state c.args.address placed c.finding.result found (c.finding.ensures setting state its.header its.are.bytes there)
