-- How many records the logs hold.
use Rattle.std.specs.Prelude.{ℕ, ◌+◌, ◌*◌, ◌/◌, if◌then◌else◌}
use Rattle.umem_options.specs.declared.limits.TheConstants.{DEFAULT_CONTENTS, FAIL_BYTES, FRAME_BYTES, SAVED_BYTES, TRANSACTION_BYTES}
use Rattle.umem_options.specs.declared.options.Options.{Options}
use Rattle.umem_options.specs.declared.options.Logging.{Logging}
use Rattle.umem_options.specs.Flags.{has_audit, has_contents}

-- the transactions that the log holds, each with its frames; without audit there are none
abbrev pub transaction_capacity : Logging → Options → ℕ
transaction_capacity l o =
    if has_audit o then l.transaction / (TRANSACTION_BYTES + FRAME_BYTES * o.frames) else 0

-- the failed allocations that the log holds
abbrev pub fail_capacity : Logging → ℕ
fail_capacity l = l.fail / FAIL_BYTES

-- the bytes that are kept of a freed buffer
abbrev pub contents_count : Options → ℕ
contents_count o = if has_contents o then o.contents else DEFAULT_CONTENTS

-- the freed buffers that the log holds, each with its bytes; without audit there are none
abbrev pub contents_capacity : Logging → Options → ℕ
contents_capacity l o = if has_audit o then l.contents / (SAVED_BYTES + contents_count o) else 0
