-- When a journal stands beside the accounts of a run.
use Rattle.umem_options.specs.Limits.{IsLogging, IsOptions}
use Rattle.heap_ledger.specs.Ledger.{Ledger}
use Rattle.heap_books.specs.Journal.{IsJournalOf, Journal}

-- the options and the sizes of the logs are within their limits, and the journal is that of the run
pub record AreBooks (ledger : Ledger) (kept : Journal) : Type 0 where
  pub options : IsOptions ledger.options
  pub logging : IsLogging ledger.logging
  pub journal : IsJournalOf ledger kept
