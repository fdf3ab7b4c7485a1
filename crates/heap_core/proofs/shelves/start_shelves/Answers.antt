use Rattle.heap_core.proofs.StartLemmas.{first_are_start}
use Rattle.heap_core.proofs.shelves.start_shelves.Goals as goal

pub returns : goal.returns
returns c =
    first_are_start (record { header = c.args.header.now; guards = c.args.guards }) c.in_ok-shelves.shelves.items c.in_ok-shelves.ensures.count c.in_ok-shelves.ensures.those
