use Rattle.std.proofs.Common.{◌≡◌, ◌+◌, ◌++◌, None, replicate}
use Rattle.heap_books.proofs.journal.Journal.enter.Given as goal

abbrev pub invariant-loop : goal.invariant-loop
invariant-loop l = record {
  items : l.self-inside.acts.items ≡ l.initial.self-inside.acts.items ++ replicate l.counter None;
  spare : l.self-inside.acts.spare + l.counter ≡ l.initial.self-inside.acts.spare;
  saved : l.self-inside.saved ≡ l.initial.self-inside.saved;
  piece : l.self-inside.piece ≡ l.initial.self-inside.piece;
}
