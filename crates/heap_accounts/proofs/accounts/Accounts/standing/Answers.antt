use Rattle.std.proofs.Common.{List, subst, sym}
use Rattle.heap_ledger.specs.Ledger.{Ledger, run_setting, run_state}
use Rattle.heap_slabs.specs.declared.standing.Standing.{Standing}
use Rattle.heap_slabs.specs.HeapSlabs.{AreStandingSlabs}
use Rattle.heap_accounts.proofs.accounts.Accounts.standing.Goals as goal

pub returns-clause-exactly : goal.returns-clause-exactly
returns-clause-exactly c =
    let ledger = c.self.inside.ledger in
    subst (λ (l : Ledger). AreStandingSlabs (run_setting l) (run_state l) c.standing.result.now) c.self.view_is
    (subst (λ (slabs : List Standing). AreStandingSlabs (run_setting ledger) (run_state ledger) slabs) (sym c.standing.ensures.slabs)
    c.self.invariant.are.slabs.slabs)
