use Rattle.plain_heap.specs.State.{state_of}
use Rattle.heap_accounts.proofs.AccountsLemmas.{slots_of, stores_of}
use Rattle.heap_accounts.proofs.PerformLemmas.{plain_performs}
use Rattle.heap_accounts.proofs.plain_calls.plain.Goals as goal

pub make_plain-requires-clause-slots : goal.make_plain-requires-clause-slots
make_plain-requires-clause-slots c =
    let its = c.requires.its in
    slots_of c.args.tables.now.memory c.requires.setting (state_of c.requires.setting c.requires.entries) c.args.thread c.args.op.now c.slots_are_mapped.ensures its.header its.are.bytes
    c.requires.within c.requires.limits

pub make_plain-requires-clause-stored : goal.make_plain-requires-clause-stored
make_plain-requires-clause-stored c = stores_of c.requires.setting.header c.args.op.now c.requires.limits

pub returns : goal.returns
returns c = plain_performs c.args.tables.now c.make_plain.new.memory c.args.thread c.args.op.now c.make_plain.result c.tables_look_at_slabs.ensures c.make_plain.ensures
