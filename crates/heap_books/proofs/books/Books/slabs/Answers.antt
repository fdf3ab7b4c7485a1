use Rattle.std.proofs.Common.{subst}
use Rattle.heap_ledger.specs.Ledger.{Ledger, run_state}
use Rattle.heap_slabs.specs.HeapSlabs.{AreStandingIn}
use Rattle.heap_books.proofs.books.Books.slabs.Goals as goal

pub returns-clause-exactly : goal.returns-clause-exactly
returns-clause-exactly c =
    subst (λ (l : Ledger). AreStandingIn (run_state l) c.slabs.result.now) c.self.view_is c.slabs.ensures.exactly
