-- The rules of the audits and of the three logs.
use Rattle.std.specs.Prelude.{◌≡◌, ◌⊎◌, ℕ, ◌<◌, ◌≤◌, All, AllPairs, IsTrue, length, if◌then◌else◌}
use Rattle.trans_log.specs.declared.kinds.TheConstants.{ALLOCATION, FREE}
use Rattle.trans_log.specs.declared.record.Fail.{Fail}
use Rattle.trans_log.specs.declared.record.Saved.{Saved}
use Rattle.trans_log.specs.declared.record.Trans.{Trans}
use Rattle.case_table.specs.declared.limits.TheConstants.{MOST_CACHE_BYTES, MOST_THREADS}
use Rattle.umem_options.specs.Flags.{has_flag}
use Rattle.umem_options.specs.declared.flags.TheConstants.DebugFlags.{CONTENTS}
use Rattle.umem_options.specs.declared.limits.TheConstants.{DEFAULT_CONTENTS}
use Rattle.core_format.specs.declared.items.AuditItem.{AuditItem}
use Rattle.core_format.specs.declared.whole.Core.{Core}
use Rattle.core_format.specs.Chunks.{is_chunk_in}
use Rattle.core_format.specs.Logs.{is_in_arena}
use Rattle.core_rules.specs.HeaderRules.{AreByteValues, AreWords}

-- how many bytes of a freed buffer are kept at most
abbrev pub most_kept : Core → ℕ
most_kept core = if has_flag core.flags CONTENTS then core.contents else DEFAULT_CONTENTS

-- an audit is of a chunk of a slab
pub record KeepsAuditRules (core : Core) (audit : AuditItem) : Type 0 where
  pub chunk : IsTrue (is_chunk_in core audit.chunk)
  pub thread : audit.thread < MOST_THREADS
  pub time : audit.time < core.entries
  pub depth : length audit.stack ≤ core.frames
  pub frames : AreWords audit.stack

-- a transaction is an allocation or a free, of a chunk that had a number
pub record KeepsTransRules (core : Core) (trans : Trans) : Type 0 where
  pub kind : (trans.kind ≡ ALLOCATION) ⊎ (trans.kind ≡ FREE)
  pub cpu : trans.cpu < core.cpus
  pub thread : trans.thread < MOST_THREADS
  pub chunk : trans.chunk < core.next_chunk
  pub address : IsTrue (is_in_arena core.version trans.address)
  pub time : trans.time < core.entries
  pub depth : length trans.stack ≤ core.frames
  pub frames : AreWords trans.stack

-- a failed allocation asked for what a cache serves
pub record KeepsFailRules (core : Core) (fail : Fail) : Type 0 where
  pub thread : fail.thread < MOST_THREADS
  pub cache : fail.cache < length core.caches
  pub some : 1 ≤ fail.size
  pub fits : fail.size ≤ MOST_CACHE_BYTES
  pub time : fail.time < core.entries

-- of a freed buffer no more bytes are kept than the options say
pub record KeepsSavedRules (core : Core) (saved : Saved) : Type 0 where
  pub time : saved.time < core.entries
  pub chunk : saved.chunk < core.next_chunk
  pub kept : length saved.bytes ≤ most_kept core
  pub bytes : AreByteValues saved.bytes

-- the audits stand by rising chunk, and each log by rising time
pub record KeepsLogRules (core : Core) : Type 0 where
  pub audits : All (KeepsAuditRules core) core.audits
  pub audits_rise : AllPairs (λ audit later. audit.chunk < later.chunk) core.audits
  pub trans : All (KeepsTransRules core) core.trans
  pub trans_rise : AllPairs (λ trans later. trans.time < later.time) core.trans
  pub fails : All (KeepsFailRules core) core.fails
  pub fails_rise : AllPairs (λ fail later. fail.time < later.time) core.fails
  pub saved : All (KeepsSavedRules core) core.saved
  pub saved_rise : AllPairs (λ saved later. saved.time < later.time) core.saved
