use Rattle.std.specs.Prelude.{max}
use Rattle.plain_heap.specs.State.{state_of}
use Rattle.heap_accounts.specs.Tables.{KeepsTables}
use Rattle.heap_accounts.proofs.GrowLemmas.{has_place, kept_with, no_run, on_err, opens, same_bytes}
use Rattle.heap_accounts.proofs.grow_calls.open_fresh.Goals as goal

pub returns-in_err-rounds-clause-err : goal.returns-in_err-rounds-clause-err
returns-in_err-rounds-clause-err c =
    let old = c.args.tables.now in
    on_err c.from_residual-in_err-rounds.result (KeepsTables old (record { memory = old.memory; live = old.live; slabs = c.make_room.new.self }))
    (kept_with old old.memory c.make_room.new.self (max old.slabs.spare 1) c.in_ok-make_room.ensures.ok (λ setting entries of. of.are.bytes))

pub returns-in_err-base-clause-err : goal.returns-in_err-base-clause-err
returns-in_err-base-clause-err c =
    let old = c.args.tables.now in
    on_err c.from_residual-in_err-base.result (KeepsTables old (record { memory = c.open_slab.new.self; live = old.live; slabs = c.make_room.new.self }))
    (kept_with old c.open_slab.new.self c.make_room.new.self (max old.slabs.spare 1) c.in_ok-make_room.ensures.ok
    (λ setting entries of. c.in_err-base.ensures.err setting (state_of setting entries) of.header of.are.bytes))

pub returns-in_default-clause-ok : goal.returns-in_default-clause-ok
returns-in_default-clause-ok c =
    let old = c.args.tables.now in
    let its = c.next_slab-slab.ensures in
    let found = c.in_ok-base.ensures in (
      no_run old c.args.cache c.next_slab-slab.result its.cache its.next c.open_slab.new.self c.in_ok-base.field-0 found.lowest found.opened c.in_default.is,
      kept_with old c.open_slab.new.self c.make_room.new.self (max old.slabs.spare 1) c.in_ok-make_room.ensures.ok
          (same_bytes old c.args.cache c.next_slab-slab.result its.cache its.next c.open_slab.new.self c.in_ok-base.field-0 found.lowest found.opened c.in_default.is),
    )

pub add-requires-clause-place : goal.add-requires-clause-place
add-requires-clause-place c =
    let old = c.args.tables.now in
    let its = c.next_slab-slab.ensures in
    let found = c.in_ok-base.ensures in
    has_place old c.args.cache c.next_slab-slab.result its.cache its.next c.open_slab.new.self c.in_ok-base.field-0 found.lowest found.opened
    c.in-Some.base c.in-Some.is c.make_room.new.self (max old.slabs.spare 1) c.in_ok-make_room.ensures.ok c.free_runs_are_places.ensures c.requires.some c.requires.cache c.requires.numbers

pub returns-clause-ok : goal.returns-clause-ok
returns-clause-ok c =
    let old = c.args.tables.now in
    let its = c.next_slab-slab.ensures in
    let found = c.in_ok-base.ensures in
    opens old c.args.cache c.next_slab-slab.result its.cache its.next c.open_slab.new.self c.in_ok-base.field-0 found.lowest found.opened
    c.in-Some.base c.in-Some.is c.make_room.new.self (max old.slabs.spare 1) c.in_ok-make_room.ensures.ok c.in_ok-rounds.rounds c.geometry-count.result c.add.new.self
    c.new_slabs_are_unused.ensures c.in_ok-rounds.ensures.items c.geometry-count.ensures.value c.add.ensures.added
