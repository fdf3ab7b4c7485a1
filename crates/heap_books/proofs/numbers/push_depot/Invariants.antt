use Rattle.std.proofs.Common.{◌≡◌, ℕ, List, ◌++◌, take}
use Rattle.std.specs.List.{flat_map}
use Rattle.heap_books.proofs.numbers.push_depot.Given as goal

abbrev pub invariant-loop-magazine : goal.invariant-loop-magazine
invariant-loop-magazine l = l.numbers.items ≡ l.fn.numbers.items ++ flat_map (λ (rounds : List ℕ). rounds) (take l.magazine-index l.magazine-items)
