use Rattle.std.proofs.Common.{length, ap, arith}
use Rattle.umem_base.specs.BoundedVec.{BoundedVec}
use Rattle.plain_heap.specs.declared.entry.Entry.{Entry}
use Rattle.plain_heap.proofs.HistoryLemmas.{numbered_push}
use Rattle.plain_heap.proofs.history.History.push.Goals as goal

pub invariant_of-self : goal.invariant_of-self
invariant_of-self c =
    let entries = c.self.inside.entries.items in
    let long = ap (λ (b : BoundedVec Entry). length b.items) c.self.view_is in
    rw c.push.ensures.items (numbered_push 0 entries c.args.entry c.self.invariant (omega (arith, c.requires.number, long)))
