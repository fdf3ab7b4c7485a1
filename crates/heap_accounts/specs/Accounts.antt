-- When tables are those of a history.
use Rattle.std.specs.Prelude.{◌+◌, ◌≤◌, length}
use Rattle.script.specs.Plan.{call_count}
use Rattle.plain_heap.specs.Calls.{turns_made}
use Rattle.heap_ledger.specs.Ledger.{IsLedger, Ledger, run_setting, run_state}
use Rattle.heap_accounts.specs.declared.tables.Tables.{Tables}
use Rattle.heap_accounts.specs.Tables.{AreTablesOf}

-- The tables are those of what the entries left, there is room for a buffer more for each call that is left, and no
-- more slabs were made than calls.
pub record AreAccounts (ledger : Ledger) (tables : Tables) : Type 0 where
  pub legal : IsLedger ledger
  pub are : AreTablesOf (run_setting ledger) (run_state ledger) tables
  pub room : call_count ledger.plan ≤ length (turns_made ledger.entries) + tables.live.spare
  pub grown : length (run_state ledger).grown ≤ length (turns_made ledger.entries)
