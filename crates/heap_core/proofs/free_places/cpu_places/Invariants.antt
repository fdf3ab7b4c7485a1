use Rattle.std.proofs.Common.{◌≡◌}
use Rattle.heap_core.specs.Shelves.{stocks_of}
use Rattle.heap_pictures.specs.Items.{place_items}
use Rattle.heap_core.proofs.free_places.cpu_places.Given as goal

abbrev pub invariant-loop-cpu : goal.invariant-loop-cpu
invariant-loop-cpu l = l.places.items ≡ place_items l.cpu (stocks_of l.shelves)
