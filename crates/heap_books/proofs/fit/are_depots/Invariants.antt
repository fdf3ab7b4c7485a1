use Rattle.heap_ledger.specs.Ledger.{run_setting, run_state}
use Rattle.heap_books.proofs.TestLemmas.{DepotsPass}
use Rattle.heap_books.proofs.fit.are_depots.Given as goal

abbrev pub invariant-loop-cache : goal.invariant-loop-cache
invariant-loop-cache l = DepotsPass (run_setting l.accounts) (run_state l.accounts) l.depots l.cache
