use Rattle.std.proofs.Common.{ℕ, ◌<◌, get_or}
use Rattle.heap_pictures.specs.Drawn.{no_list, no_standing}
use Rattle.heap_books.specs.Tests.{IsListAt}
use Rattle.heap_books.proofs.fit.are_lists_at.Given as goal

abbrev pub invariant-loop-index : goal.invariant-loop-index
invariant-loop-index l = (k : ℕ) → k < l.index → IsListAt (get_or l.standing k no_standing) (get_or l.lists k no_list)
