use Rattle.std.proofs.Common.{◌≡◌, ◌+◌, ◌++◌, length, take}
use Rattle.heap_ledger.specs.Ledger.{inner_entries, shrunk}
use Rattle.heap_ledger.proofs.ledger.enter_shrinks.Given as goal

abbrev pub invariant-loop-slab : goal.invariant-loop-slab
invariant-loop-slab l = record {
  items : l.history.items ≡ l.initial.history.items ++ inner_entries (length l.initial.history.items) l.thread (shrunk (take l.slab-index l.slabs));
  spare : l.history.spare + l.slab-index ≡ l.initial.history.spare;
}
