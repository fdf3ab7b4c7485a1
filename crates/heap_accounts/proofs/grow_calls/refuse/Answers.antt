use Rattle.heap_accounts.proofs.LastLemmas.{refuses}
use Rattle.heap_accounts.proofs.grow_calls.refuse.Goals as goal

pub returns : goal.returns
returns c = refuses c.args.tables.now c.put_slot.new.self c.args.thread c.args.slot c.tables_look_at_slabs.ensures c.put_slot.ensures
