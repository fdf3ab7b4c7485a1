-- What this crate proves of its definitions.
use Rattle.std.specs.Prelude.{◌^◌, ◌<◌, length}
use Rattle.umem_options.specs.Limits.{IsLogging, IsOptions}
use Rattle.core_format.specs.declared.whole.Core.{Core}
use Rattle.plain_heap.specs.State.{next_chunk}
use Rattle.core_rules.specs.Rules.{KeepsTheRules}
use Rattle.heap_ledger.specs.Ledger.{IsLedger, Ledger, run_setting, run_state}
use Rattle.heap_accounts.specs.FreeChunks.{ArePlacesOf}
use Rattle.heap_accounts.specs.Places.{Places}
use Rattle.heap_pictures.specs.Pictures.{Pictures, TellsPlaces}

-- What a picture stands on: the entries are legal and tidy and follow the plan, options and sizes are within their
-- limits, the numbers of entries and chunks have the bits that a core has for them, and the places hold exactly the
-- rounds of the free chunks.
pub record CanBePictured (ledger : Ledger) (stocks : Places) : Type 0 where
  pub legal : IsLedger ledger
  pub options : IsOptions ledger.options
  pub logging : IsLogging ledger.logging
  pub entries : length ledger.entries < 2 ^ 64
  pub chunks : next_chunk (run_setting ledger) (run_state ledger) < 2 ^ 32
  pub places : ArePlacesOf (run_setting ledger) (run_state ledger) stocks

-- a core that tells such a run and its places keeps the rules of cores
abbrev pub ToldCoresKeepTheRules : Type 0
ToldCoresKeepTheRules =
    (ledger : Ledger) (places : Places) (core : Core) → CanBePictured ledger places → TellsPlaces ledger places core
    → KeepsTheRules core

-- and so it pictures the run
abbrev pub ToldCoresPicture : Type 0
ToldCoresPicture =
    (ledger : Ledger) (places : Places) (core : Core) → CanBePictured ledger places → TellsPlaces ledger places core
    → Pictures ledger core
