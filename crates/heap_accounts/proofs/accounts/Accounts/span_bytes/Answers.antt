use Rattle.std.proofs.Common.{◌≡◌, ◌*◌, subst, sym}
use Rattle.std.specs.Prelude.{Contains}
use Rattle.umem_base.specs.declared.pages.TheConstants.{PAGE_BYTES}
use Rattle.plain_heap.specs.Bytes.{bytes_from}
use Rattle.plain_heap.specs.State.{spans_of}
use Rattle.heap_ledger.specs.Ledger.{Ledger, run_setting, run_state}
use Rattle.heap_accounts.proofs.accounts.Accounts.span_bytes.Goals as goal

pub span_bytes-requires : goal.span_bytes-requires
span_bytes-requires c =
    (c.self.invariant.are.bytes.spans c.args.span).1
    (subst (λ (l : Ledger). Contains (spans_of (run_setting l) (run_state l)) c.args.span) (sym c.self.view_is) c.requires)

pub returns : goal.returns
returns c =
    let ledger = c.self.inside.ledger in
    let span = c.args.span in
    subst (λ (l : Ledger). c.span_bytes.result.now ≡ bytes_from (run_state l).bytes span.base (PAGE_BYTES * span.pages)) c.self.view_is
    (c.span_bytes.ensures (run_setting ledger) (run_state ledger) c.self.invariant.legal.plan.header c.self.invariant.are.bytes)
