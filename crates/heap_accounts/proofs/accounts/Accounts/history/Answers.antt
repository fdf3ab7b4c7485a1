use Rattle.std.proofs.Common.{◌≤◌, ◌^◌, subst}
use Rattle.plain_heap.specs.State.{next_chunk}
use Rattle.heap_ledger.specs.Ledger.{Ledger, run_setting, run_state}
use Rattle.heap_accounts.proofs.FewLemmas.{numbers_few}
use Rattle.heap_accounts.proofs.accounts.Accounts.history.Goals as goal

pub returns-clause-few : goal.returns-clause-few
returns-clause-few c =
    subst (λ (l : Ledger). next_chunk (run_setting l) (run_state l) ≤ 2 ^ 32) c.self.view_is (numbers_few c.self.inside.ledger c.self.inside.tables c.self.invariant)
