use Rattle.std.proofs.Common.{◌≡◌, ◌++◌, take}
use Rattle.std.specs.List.{flat_map}
use Rattle.core_format.specs.Magazines.{depot_rounds_of}
use Rattle.heap_books.proofs.numbers.push_depots.Given as goal

abbrev pub invariant-loop-depot : goal.invariant-loop-depot
invariant-loop-depot l = l.numbers.items ≡ l.fn.numbers.items ++ flat_map depot_rounds_of (take l.depot-index l.depots)
