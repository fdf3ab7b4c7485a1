use Rattle.std.proofs.Common.{Some, ap, ◌∙◌}
use Rattle.std.specs.FinMap as map
use Rattle.plain_heap.specs.Live.{Live}
use Rattle.plain_heap.proofs.LiveLemmas.{live_set}
use Rattle.plain_heap.proofs.live.Live.allocated.Goals as goal

pub returns-clause-buffers : goal.returns-clause-buffers
returns-clause-buffers c =
    let updates = rw c.unwrap.ensures at c.insert-added.ensures.updates in
    live_set c.self.inside.buffers.entries c.insert-added.new.self.entries c.args.address _ updates.0
    ∙ ap (λ (b : Live). map.insert b.buffers c.args.address (Some (record { size = c.args.size; cache = c.args.cache }))) c.self.view_is
