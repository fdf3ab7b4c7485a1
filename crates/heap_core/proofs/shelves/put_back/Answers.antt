use Rattle.std.proofs.Common.{ap}
use Rattle.shelf.specs.Shelf.{Shelf}
use Rattle.heap_core.proofs.ShelvesLemmas.{shelf_put}
use Rattle.heap_core.proofs.shelves.put_back.Goals as goal

pub returns : goal.returns
returns c =
    shelf_put c.args.shelves.now c.args.cache c.args.thread c.args.round c.cpu_of-cpu.result c.index-shelves-cache.result c.put.new.self c.requires.there c.cpu_of-cpu.ensures
    (ap (λ (s : Shelf). s.stock) c.put.ensures.after)
