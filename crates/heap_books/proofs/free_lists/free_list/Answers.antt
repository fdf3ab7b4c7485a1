use Rattle.heap_ledger.specs.Ledger.{run_state}
use Rattle.heap_books.specs.InLists.{free_at}
use Rattle.heap_books.proofs.PushLemmas.{pushed_number}
use Rattle.heap_books.proofs.free_lists.free_list.Goals as goal

pub loop-index-preserved : goal.loop-index-preserved
loop-index-preserved c =
    pushed_number (free_at (run_state c.args.accounts.now) c.args.slab.now) c.loop-index.chunks.items
    c.push_free.new.chunks.items c.loop-index.index c.loop-index.invariant c.in_ok-push_free.ensures
