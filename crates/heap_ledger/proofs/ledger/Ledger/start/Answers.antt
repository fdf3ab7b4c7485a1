use Rattle.std.proofs.Common.{◌∙◌, length, ap}
use Rattle.std.specs.Prelude.{sum_by}
use Rattle.script.specs.declared.tree.Step.{Step}
use Rattle.umem_base.specs.BoundedVec.{BoundedVec}
use Rattle.heap_ledger.proofs.StartLemmas.{start_told}
use Rattle.heap_ledger.proofs.ledger.Ledger.start.Goals as goal

pub invariant_of-result : goal.invariant_of-result
invariant_of-result c =
    start_told c.args.script.now c.in_ok-clone.field-0 c.args.options.now c.args.logging.now c.in_ok-schedule.schedule c.in_ok-history.history c.calls_of.result
    c.requires c.in_ok-clone.ensures.cases c.in_ok-schedule.ensures c.in_ok-history.ensures.empty c.in_ok-history.ensures.spare c.calls_of.ensures.calls
