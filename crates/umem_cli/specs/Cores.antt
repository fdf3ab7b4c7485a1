-- Which core a run leaves.
use Rattle.std.specs.Prelude.{◌≡◌, ◌≤◌, ℕ, List, length, Option, Some, None, ⊤}
use Rattle.core_format.specs.declared.whole.Core.{Core}
use Rattle.core_format.specs.Cores.{IsCore}
use Rattle.core_sizes.specs.declared.limits.TheConstants.{MOST_CORE_BYTES}
use Rattle.heap_ledger.specs.Ledger.{Ledger, run_setting}
use Rattle.heap_accounts.specs.Places.{places_of}
use Rattle.heap_pictures.specs.Pictures.{Pictures, TellsPlaces}
use Rattle.umem_cli.specs.declared.printed.CoreFile.{CoreFile}

-- The bytes are a core that pictures the run, and no more than are read of a core. Where one thread makes all calls,
-- its free chunks stand where the magazine rules say.
pub record IsCoreOf (ledger : Ledger) (bytes : List ℕ) : Type 0 where
  pub core : Core
  pub is : IsCore bytes core
  pub fits : length bytes ≤ MOST_CORE_BYTES
  pub pictures : Pictures ledger core
  pub places : ledger.plan.header.threads ≡ 1 → TellsPlaces ledger (places_of (run_setting ledger) ledger.entries) core

-- such a core is to be written to the file of that name, and none where no name is given
abbrev pub IsCoreAsked : Ledger → Option (List ℕ) → Option CoreFile → Type 0
IsCoreAsked ledger None None = ⊤
IsCoreAsked ledger None (Some file) = ⊥
IsCoreAsked ledger (Some name) None = ⊥
IsCoreAsked ledger (Some name) (Some file) = (file.name ≡ name) × IsCoreOf ledger file.bytes.items
