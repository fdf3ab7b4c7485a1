-- A core that tells a run keeps the rules of its audits and logs.
use Rattle.core_format.specs.declared.whole.Core.{Core}
use Rattle.core_rules.specs.LogRules.{KeepsLogRules}
use Rattle.heap_ledger.specs.Ledger.{Ledger}
use Rattle.heap_accounts.specs.Places.{Places}
use Rattle.heap_pictures.specs.Laws.{CanBePictured}
use Rattle.heap_pictures.specs.Pictures.{TellsPlaces}
use Rattle.heap_pictures.proofs.AuditLemmas.{log_audits}
use Rattle.heap_pictures.proofs.FailLemmas.{log_fails}
use Rattle.heap_pictures.proofs.SavedLemmas.{log_saved}
use Rattle.heap_pictures.proofs.TransLemmas.{log_trans}

pub keeps_logs : (ledger : Ledger) (places : Places) (core : Core) → CanBePictured ledger places
    → TellsPlaces ledger places core → KeepsLogRules core
keeps_logs ledger places core can tells =
    let audits = log_audits ledger places core can tells in
    let trans = log_trans ledger places core can tells in
    let fails = log_fails ledger places core can tells in
    let saved = log_saved ledger places core can tells in
    record {
      audits = audits.keep;
      audits_rise = audits.rise;
      trans = trans.keep;
      trans_rise = trans.rise;
      fails = fails.keep;
      fails_rise = fails.rise;
      saved = saved.keep;
      saved_rise = saved.rise;
    }
