-- The flags as the bits of a number, and which of them are set.
use Rattle.std.specs.Prelude.{ℕ, ◌==◌, Bool}
use Rattle.std.specs.Int.RustNames.{bit_and, bit_or}
use Rattle.umem_options.specs.declared.flags.DebugFlags.{DebugFlags}
use Rattle.umem_options.specs.declared.flags.TheConstants.DebugFlags.{AUDIT, CONTENTS, GUARDS}
use Rattle.umem_options.specs.declared.options.Options.{Options}

-- the bits of a set of flags
abbrev pub bits_of : DebugFlags → ℕ
bits_of flags = flags.0

-- the flags with one more
abbrev pub with_flag : DebugFlags → DebugFlags → DebugFlags
with_flag flags flag = record { 0 = bit_or (bits_of flags) (bits_of flag) }

-- the flag is among the flags
abbrev pub has_flag : DebugFlags → DebugFlags → Bool
has_flag flags flag = bit_and (bits_of flags) (bits_of flag) == bits_of flag

-- each chunk has the record of its last transaction
abbrev pub has_audit : Options → Bool
has_audit o = has_flag o.flags AUDIT

-- the option says how many bytes are kept of a freed buffer
abbrev pub has_contents : Options → Bool
has_contents o = has_flag o.flags CONTENTS

-- each chunk has its redzone
abbrev pub has_guards : Options → Bool
has_guards o = has_flag o.flags GUARDS
