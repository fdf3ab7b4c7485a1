use Rattle.std.proofs.Common.{◌≡◌, ◌++◌, take}
use Rattle.heap_books.specs.Fit.{listed_in}
use Rattle.heap_books.proofs.numbers.push_lists.Given as goal

abbrev pub invariant-loop-list : goal.invariant-loop-list
invariant-loop-list l = l.numbers.items ≡ l.fn.numbers.items ++ listed_in (take l.list-index l.lists)
