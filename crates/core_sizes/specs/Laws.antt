-- What this crate proves of its definitions.
use Rattle.std.specs.Prelude.{◌≤◌, length}
use Rattle.umem_options.specs.Limits.{IsLogging, IsOptions}
use Rattle.core_format.specs.declared.whole.Core.{Core}
use Rattle.core_format.specs.Spelling.{spelled_core}
use Rattle.heap_ledger.specs.Ledger.{IsLedger, Ledger}
use Rattle.heap_pictures.specs.Pictures.{Pictures}
use Rattle.core_sizes.specs.declared.limits.TheConstants.{MOST_CORE_BYTES}

-- a core that pictures a run, with options and sizes of logs within their limits, has no more bytes than are read
abbrev pub CoresOfRunsAreRead : Type 0
CoresOfRunsAreRead =
    (ledger : Ledger) (core : Core) → IsLedger ledger → IsOptions ledger.options → IsLogging ledger.logging
    → Pictures ledger core → length (spelled_core core) ≤ MOST_CORE_BYTES
