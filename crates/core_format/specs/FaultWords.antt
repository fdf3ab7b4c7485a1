-- The words of the faults.
use Rattle.std.specs.Prelude.{ℕ, List, codes}
use Rattle.core_format.specs.declared.fault.Fault.{Fault}
use Rattle.core_format.specs.declared.fault.Fault.TheVariants.{BadAudit, BadCache, BadFlags, BadLength, BadLog, BadMagic, BadRound, BadSlab, BadSpan, BadVersion, Overlap, RoundTwice, Short, TrailingBytes, Unsorted}

-- the word that a fault is told by
abbrev pub fault_word : Fault → List ℕ
fault_word BadMagic = codes "bad-magic"
fault_word BadVersion = codes "bad-version"
fault_word BadFlags = codes "bad-flags"
fault_word Short = codes "short"
fault_word BadLength = codes "bad-length"
fault_word Overlap = codes "overlap"
fault_word Unsorted = codes "unsorted"
fault_word BadCache = codes "bad-cache"
fault_word BadSlab = codes "bad-slab"
fault_word BadSpan = codes "bad-span"
fault_word BadRound = codes "bad-round"
fault_word RoundTwice = codes "round-twice"
fault_word BadAudit = codes "bad-audit"
fault_word BadLog = codes "bad-log"
fault_word TrailingBytes = codes "trailing-bytes"
