-- What every text of options gives, whatever its bytes.
use Rattle.std.specs.Prelude.{◌≡◌, ◌*◌, ◌<◌, ◌≤◌, IsTrue}
use Rattle.umem_options.specs.declared.flags.TheConstants.DebugFlags.{AUDIT, CONTENTS, GUARDS}
use Rattle.umem_options.specs.declared.limits.TheConstants.{DEFAULT_CONTENTS, DEFAULT_FRAMES, DEFAULT_LOG_BYTES, FAIL_BYTES, FRAME_BYTES, MOST_CONTENTS, MOST_FAILS, MOST_FRAMES, MOST_LOG_BYTES, MOST_SAVED, MOST_TRANSACTIONS, SAVED_BYTES, TRANSACTION_BYTES}
use Rattle.umem_options.specs.declared.options.Options.{Options}
use Rattle.umem_options.specs.declared.options.Logging.{Logging}
use Rattle.umem_options.specs.Flags.{bits_of, has_audit, has_guards}

-- no flag is set above the highest of the three, audit comes only with guards, and the counts are within their limits
pub record IsOptions (o : Options) : Type 0 where
  pub flags : bits_of o.flags < 2 * bits_of GUARDS
  pub guarded : IsTrue (has_audit o) → IsTrue (has_guards o)
  pub frames : o.frames ≤ MOST_FRAMES
  pub contents : o.contents ≤ MOST_CONTENTS

-- no log is larger than the limit
pub record IsLogging (l : Logging) : Type 0 where
  pub transaction : l.transaction ≤ MOST_LOG_BYTES
  pub contents : l.contents ≤ MOST_LOG_BYTES
  pub fail : l.fail ≤ MOST_LOG_BYTES

-- the numbers that the options, the sizes of the logs and their capacities go by
pub record AreNumbersOfOptions : Type 0 where
  pub audit : bits_of AUDIT ≡ 1
  pub contents : bits_of CONTENTS ≡ 2
  pub guards : bits_of GUARDS ≡ 4
  pub default_frames : DEFAULT_FRAMES ≡ 15
  pub most_frames : MOST_FRAMES ≡ 32
  pub default_contents : DEFAULT_CONTENTS ≡ 256
  pub most_contents : MOST_CONTENTS ≡ 4096
  pub default_log : DEFAULT_LOG_BYTES ≡ 65536
  pub most_log : MOST_LOG_BYTES ≡ 67108864
  pub transaction : TRANSACTION_BYTES ≡ 64
  pub frame : FRAME_BYTES ≡ 8
  pub fail : FAIL_BYTES ≡ 24
  pub saved : SAVED_BYTES ≡ 24
  pub most_transactions : MOST_TRANSACTIONS ≡ 1048576
  pub most_fails : MOST_FAILS ≡ 2796202
  pub most_saved : MOST_SAVED ≡ 2796202
