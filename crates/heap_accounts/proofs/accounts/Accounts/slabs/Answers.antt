use Rattle.std.proofs.Common.{subst}
use Rattle.heap_ledger.specs.Ledger.{Ledger, run_setting, run_state}
use Rattle.heap_slabs.specs.HeapSlabs.{AreStandingIn}
use Rattle.heap_accounts.proofs.accounts.Accounts.slabs.Goals as goal

pub returns-clause-exactly : goal.returns-clause-exactly
returns-clause-exactly c =
    subst (λ (l : Ledger). AreStandingIn (run_state l) c.slabs.result.now) c.self.view_is
    (c.slabs.ensures.exactly (run_setting c.self.inside.ledger) (run_state c.self.inside.ledger) c.self.invariant.legal.plan.header c.self.invariant.are.slabs)
