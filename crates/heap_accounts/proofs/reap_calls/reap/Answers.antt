use Rattle.std.proofs.Common.{List, subst}
use Rattle.heap_ledger.specs.declared.slab_at.SlabAt.{SlabAt}
use Rattle.heap_accounts.specs.Reaps.{ClosesSlabs}
use Rattle.heap_accounts.proofs.CloseLemmas.{performs_reap}
use Rattle.heap_accounts.proofs.reap_calls.reap.Goals as goal

pub returns : goal.returns
returns c =
    let old = c.args.tables.now in
    performs_reap old c.drop_unused.new.self c.drop_unused.ensures.reaped c.close_slabs.new.memory c.drop_unused.ensures.dropped
    (subst (λ (slabs : List SlabAt). ClosesSlabs old.memory c.close_slabs.new.memory slabs slabs) c.reaped.ensures c.close_slabs.ensures)
