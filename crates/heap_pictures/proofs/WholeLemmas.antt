-- A core that tells a run keeps all rules, and pictures the run.
use Rattle.core_format.specs.declared.whole.Core.{Core}
use Rattle.core_format.specs.Spelling.{spelled_core}
use Rattle.core_rules.specs.HeaderRules.{KeepsCountRules}
use Rattle.core_rules.proofs.ByteLemmas.{spelled_in_bytes}
use Rattle.core_rules.proofs.WholeLemmas.{rules_are_read}
use Rattle.heap_ledger.specs.Ledger.{Ledger}
use Rattle.heap_accounts.specs.Places.{Places}
use Rattle.heap_pictures.specs.Items.{list_in}
use Rattle.heap_pictures.specs.Laws.{CanBePictured, ToldCoresKeepTheRules, ToldCoresPicture}
use Rattle.heap_pictures.specs.Pictures.{TellsPlaces}
use Rattle.heap_pictures.proofs.AllocatedLemmas.{are_allocated}
use Rattle.heap_pictures.proofs.ByteLemmas.{are_bytes}
use Rattle.heap_pictures.proofs.CacheLemmas.{keeps_caches}
use Rattle.heap_pictures.proofs.CountLemmas.{audits_counted}
use Rattle.heap_pictures.proofs.LargeLemmas.{few_large, keeps_large}
use Rattle.heap_pictures.proofs.LogLemmas.{keeps_logs}
use Rattle.heap_pictures.proofs.NumberLemmas.{caches_few, classes_there, fails_few, keeps_numbers, keeps_segments, keeps_version, trans_few}
use Rattle.heap_pictures.proofs.PlaceLemmas.{keeps_places}
use Rattle.heap_pictures.proofs.SlabLemmas.{few_slabs, keeps_slabs}

-- no list is longer than it may be
keeps_counts : (ledger : Ledger) (places : Places) (core : Core) → CanBePictured ledger places → TellsPlaces ledger places core → KeepsCountRules core
keeps_counts ledger places core can tells = record {
  classes = classes_there ledger places core can tells;
  caches = caches_few ledger places core can tells;
  slabs = few_slabs ledger places core can tells;
  large = few_large ledger places core can tells;
  audits = audits_counted ledger places core can tells;
  trans = trans_few ledger places core can tells;
  fails = fails_few ledger places core can tells;
}

pub keeps_rules : ToldCoresKeepTheRules
keeps_rules ledger places core can tells = record {
  numbers = keeps_numbers ledger places core can tells;
  counts = keeps_counts ledger places core can tells;
  version = keeps_version ledger places core can tells;
  segments = keeps_segments ledger places core can tells;
  caches = keeps_caches ledger places core can tells;
  slabs = keeps_slabs ledger places core can tells (are_bytes ledger can.legal);
  large = keeps_large ledger places core can tells (are_bytes ledger can.legal);
  places = keeps_places ledger places core can tells;
  logs = keeps_logs ledger places core can tells;
}

pub pictures : ToldCoresPicture
pictures ledger places core can tells =
    let rules = keeps_rules ledger places core can tells in
    record {
      rules = (spelled_core core, spelled_in_bytes core rules, rules_are_read core rules);
      lists = list_in places;
      tells = tells.tells;
      allocated = are_allocated ledger places core can tells;
    }
