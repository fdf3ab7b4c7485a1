-- Which chunks of a core are in use, of what size and by whom.
use Rattle.std.specs.Prelude.{ℕ, List, Option, find, option_and_then, ◌==◌}
use Rattle.std.specs.List.{filter_map}
use Rattle.std.specs.Option.{option_map}
use Rattle.core_format.specs.declared.items.AuditItem.{AuditItem}
use Rattle.core_format.specs.declared.whole.Core.{Core}
use Rattle.heap_view.specs.declared.buffer.Buffer.{Buffer}
use Rattle.heap_view.specs.Buffers.{buffers_of}
use Rattle.umausers.specs.declared.usage.Usage.{Usage}

-- the last transaction of a chunk
abbrev pub audit_of_chunk : Core → ℕ → Option AuditItem
audit_of_chunk core chunk = find (λ audit. audit.chunk == chunk) core.audits

-- the size of a buffer, and the stack of an audit
abbrev pub usage_by : Buffer → AuditItem → Usage
usage_by buffer audit = record { size = buffer.size; stack = audit.stack }

-- what an allocated buffer is a usage of, where it is a chunk that has an audit
abbrev pub usage_of : Core → Buffer → Option Usage
usage_of core buffer = option_and_then (λ chunk. option_map (usage_by buffer) (audit_of_chunk core chunk)) buffer.chunk

-- what the allocated chunks that have an audit are usages of, by rising address
unfoldable pub usages_of : Core → List Usage
usages_of core = filter_map (usage_of core) (buffers_of core)
