use Rattle.std.proofs.Common.{◌≡◌, sym, ap, ◌∙◌, subst}
use Rattle.heap_ledger.specs.Ledger.{Ledger, run_setting, run_state}
use Rattle.heap_accounts.specs.Frees.{freed_next}
use Rattle.heap_accounts.specs.Kinds.{freed_slot}
use Rattle.heap_accounts.proofs.ReadLemmas.{freed_told}
use Rattle.heap_accounts.proofs.accounts.Accounts.freed_next.Goals as goal

pub returns : goal.returns
returns c =
    let ledger = c.self.inside.ledger in
    let header = c.self.invariant.legal.plan.header in
    subst (λ (l : Ledger). c.chunk_at.result ≡ freed_next l c.args.thread c.args.call) c.self.view_is
    (freed_told ledger c.args.thread c.args.call c.in_ok-slot.slot c.slot-word.result c.in_ok-ready.ready.now c.chunk_at.result
    (sym c.in_ok-ready.ensures.call) (sym (ap freed_slot c.op.ensures) ∙ sym c.in_ok-slot.ensures)
    (c.slot-word.ensures (run_setting ledger) (run_state ledger) header c.self.invariant.are.bytes)
    (c.chunk_at.ensures.placed (run_setting ledger) (run_state ledger) header c.self.invariant.are.slabs))
