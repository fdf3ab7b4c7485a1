use Rattle.std.proofs.Common.{◌≡◌, replicate}
use Rattle.shelf.proofs.PartsLemmas.{new_cpu}
use Rattle.shelf.proofs.shelf.Shelf.new.Given as goal

abbrev pub invariant-loop : goal.invariant-loop
invariant-loop l = l.magazines.items ≡ replicate l.counter (new_cpu l.size)
