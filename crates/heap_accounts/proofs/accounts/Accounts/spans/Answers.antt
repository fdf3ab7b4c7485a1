use Rattle.std.proofs.Common.{subst}
use Rattle.heap_ledger.specs.Ledger.{Ledger, run_setting, run_state}
use Rattle.heap_memory.specs.States.{AreSpansOf}
use Rattle.heap_accounts.proofs.accounts.Accounts.spans.Goals as goal

pub returns-clause-exactly : goal.returns-clause-exactly
returns-clause-exactly c =
    let ledger = c.self.inside.ledger in
    subst (λ (l : Ledger). AreSpansOf (run_setting l) (run_state l) c.spans.result.now) c.self.view_is
    (c.spans.ensures.exactly (run_setting ledger) (run_state ledger) c.self.invariant.legal.plan.header c.self.invariant.are.bytes)
