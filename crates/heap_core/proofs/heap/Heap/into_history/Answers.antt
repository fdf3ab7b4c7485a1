use Rattle.std.proofs.Common.{subst}
use Rattle.heap_ledger.specs.Ledger.{Ledger, run_setting}
use Rattle.heap_accounts.specs.Placed.{IsPlaced}
use Rattle.heap_core.proofs.heap.Heap.into_history.Goals as goal

pub returns-clause-placed : goal.returns-clause-placed
returns-clause-placed c = subst (λ (l : Ledger). IsPlaced (run_setting l) l.entries) c.self.view_is c.self.invariant.placed
