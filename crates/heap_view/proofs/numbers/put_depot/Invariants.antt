use Rattle.std.proofs.Common.{◌≡◌, ◌++◌, ℕ, List, take}
use Rattle.std.specs.List.{flat_map}
use Rattle.heap_view.proofs.numbers.put_depot.Given as goal

abbrev pub invariant-loop-rounds : goal.invariant-loop-rounds
invariant-loop-rounds l = l.out.items ≡ l.initial.out.items ++ flat_map (λ (rounds : List ℕ). rounds) (take l.rounds-index l.rounds-items)
