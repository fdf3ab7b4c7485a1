use Rattle.heap_ledger.specs.Ledger.{run_setting, run_state}
use Rattle.heap_books.proofs.TestLemmas.{PlacesPass}
use Rattle.heap_books.proofs.fit.are_places.Given as goal

abbrev pub invariant-loop-index : goal.invariant-loop-index
invariant-loop-index l = PlacesPass (run_setting l.accounts) (run_state l.accounts) l.places l.index
