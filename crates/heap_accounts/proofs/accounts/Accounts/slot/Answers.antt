use Rattle.std.proofs.Common.{◌≡◌, subst}
use Rattle.plain_heap.specs.State.{word_of_slot}
use Rattle.heap_ledger.specs.Ledger.{Ledger, run_setting, run_state}
use Rattle.heap_accounts.proofs.accounts.Accounts.slot.Goals as goal

pub returns : goal.returns
returns c =
    let ledger = c.self.inside.ledger in
    subst (λ (l : Ledger). c.slot.result ≡ word_of_slot (run_state l) c.args.thread c.args.slot) c.self.view_is
    (c.slot.ensures (run_setting ledger) (run_state ledger) c.self.invariant.legal.plan.header c.self.invariant.are.bytes)
