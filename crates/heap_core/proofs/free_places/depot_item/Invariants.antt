use Rattle.std.proofs.Common.{◌≡◌, map, take}
use Rattle.magazine.specs.Magazine.{Magazine}
use Rattle.heap_core.proofs.free_places.depot_item.Given as goal

abbrev pub invariant-loop-magazine : goal.invariant-loop-magazine
invariant-loop-magazine l = l.full.items ≡ map (λ (m : Magazine). m.rounds) (take l.magazine-index l.magazine-items)
