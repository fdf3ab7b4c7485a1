use Rattle.std.proofs.Common.{◌≡◌, ◌+◌, ◌*◌, length, map}
use Rattle.std.specs.List.{range_with_len}
use Rattle.heap_core.specs.Shelves.{stocks_of}
use Rattle.heap_pictures.specs.Items.{place_item}
use Rattle.heap_core.proofs.free_places.add_cpu.Given as goal

abbrev pub invariant-loop-cache : goal.invariant-loop-cache
invariant-loop-cache l =
    let stocks = stocks_of l.shelves in
    l.places.items ≡ map (place_item stocks) (range_with_len 0 (l.cpu * length stocks + l.cache))
