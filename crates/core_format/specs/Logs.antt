-- The audits of the chunks, and the three logs.
use Rattle.std.specs.Prelude.{ℕ, ◌+◌, Bool, ◌&&◌, ◌||◌, ◌==◌, List, [], ◌∷◌, Result, Ok, nat_le, nat_lt, slice_index, if◌then◌else◌}
use Rattle.std.specs.List.{list_any}
use Rattle.std.specs.Option.{option_map}
use Rattle.trans_log.specs.declared.kinds.TheConstants.{ALLOCATION, FREE}
use Rattle.trans_log.specs.declared.record.Fail.{Fail}
use Rattle.trans_log.specs.declared.record.Trans.{Trans}
use Rattle.core_format.specs.declared.cache_shape.CacheShape.{CacheShape}
use Rattle.core_format.specs.declared.header.Header.{Header}
use Rattle.core_format.specs.declared.items.AuditItem.{AuditItem}
use Rattle.core_format.specs.declared.items.SlabItem.{SlabItem}
use Rattle.trans_log.specs.declared.record.Saved.{Saved}
use Rattle.core_format.specs.declared.fault.Fault.TheVariants.{BadAudit, BadLog}
use Rattle.case_table.specs.declared.limits.TheConstants.{MOST_CACHE_BYTES, MOST_THREADS}
use Rattle.umem_base.specs.declared.arena.TheConstants.{ARENA_BASE}
use Rattle.umem_base.specs.Roots.{arena_end}
use Rattle.umem_options.specs.declared.limits.TheConstants.{DEFAULT_CONTENTS}
use Rattle.umem_options.specs.declared.flags.TheConstants.DebugFlags.{CONTENTS}
use Rattle.core_format.specs.Header.{has_bit}
use Rattle.core_format.specs.Reader.{Flaw, Reader, ◌>>=◌, bytes_at, record_at, rule}
use Rattle.core_format.specs.Items.{is_above, last_of_list, words_at}
use Rattle.core_format.specs.Slabs.{holds_chunk}

-- the widths of an audit's fields: chunk, thread, time and depth
abbrev pub audit_widths : List ℕ
audit_widths = 4 ∷ 4 ∷ 8 ∷ 4 ∷ []

-- what an audit's fields and its frames say
abbrev pub audit_of : List ℕ → List ℕ → AuditItem
audit_of v frames =
    record { chunk = slice_index v 0; thread = slice_index v 1; time = slice_index v 2; stack = frames }

-- an audit with its frames
unfoldable pub audit_item_at : Header → List CacheShape → List SlabItem → List AuditItem → Reader
    → Result (AuditItem × Reader) Flaw
audit_item_at h shapes slabs before here = do
  fields ← record_at audit_widths here
  let v = fields.0
  _ ← rule (list_any (holds_chunk shapes (slice_index v 0)) slabs) here.at BadAudit
  _ ← rule (is_above (option_map (λ a. a.chunk) (last_of_list before)) (slice_index v 0)) here.at BadAudit
  _ ← rule (nat_lt (slice_index v 1) MOST_THREADS) (here.at + 4) BadAudit
  _ ← rule (nat_lt (slice_index v 2) h.entries) (here.at + 8) BadAudit
  _ ← rule (nat_le (slice_index v 3) h.frames) (here.at + 16) BadAudit
  frames ← words_at (slice_index v 3) fields.1
  Ok (audit_of v frames.0, frames.1)

-- an address in the arena
abbrev pub is_in_arena : ℕ → ℕ → Bool
is_in_arena version address = nat_le ARENA_BASE address && nat_lt address (arena_end version)

-- the widths of a transaction's fields: kind, CPU, thread, chunk, address, time and depth
abbrev pub trans_widths : List ℕ
trans_widths = 4 ∷ 4 ∷ 4 ∷ 4 ∷ 8 ∷ 8 ∷ 4 ∷ []

-- what a transaction's fields and its frames say
abbrev pub trans_of : List ℕ → List ℕ → Trans
trans_of v frames = record {
  kind = slice_index v 0;
  cpu = slice_index v 1;
  thread = slice_index v 2;
  chunk = slice_index v 3;
  address = slice_index v 4;
  time = slice_index v 5;
  stack = frames;
}

-- a transaction with its frames
unfoldable pub trans_item_at : Header → List Trans → Reader → Result (Trans × Reader) Flaw
trans_item_at h before here = do
  fields ← record_at trans_widths here
  let v = fields.0
  _ ← rule (slice_index v 0 == ALLOCATION || slice_index v 0 == FREE) here.at BadLog
  _ ← rule (nat_lt (slice_index v 1) h.cpus) (here.at + 4) BadLog
  _ ← rule (nat_lt (slice_index v 2) MOST_THREADS) (here.at + 8) BadLog
  _ ← rule (nat_lt (slice_index v 3) h.next_chunk) (here.at + 12) BadLog
  _ ← rule (is_in_arena h.version (slice_index v 4)) (here.at + 16) BadLog
  _ ← rule (nat_lt (slice_index v 5) h.entries) (here.at + 24) BadLog
  _ ← rule (is_above (option_map (λ t. t.time) (last_of_list before)) (slice_index v 5)) (here.at + 24) BadLog
  _ ← rule (nat_le (slice_index v 6) h.frames) (here.at + 32) BadLog
  frames ← words_at (slice_index v 6) fields.1
  Ok (trans_of v frames.0, frames.1)

-- the widths of a failed allocation's fields: thread, cache, size and time
abbrev pub fail_widths : List ℕ
fail_widths = 4 ∷ 4 ∷ 8 ∷ 8 ∷ []

-- what its numbers say
abbrev pub fail_of : List ℕ → Fail
fail_of v = record { thread = slice_index v 0; cache = slice_index v 1; size = slice_index v 2; time = slice_index v 3 }

-- a failed allocation
unfoldable pub fail_item_at : Header → List Fail → Reader → Result (Fail × Reader) Flaw
fail_item_at h before here = do
  fields ← record_at fail_widths here
  let v = fields.0
  _ ← rule (nat_lt (slice_index v 0) MOST_THREADS) here.at BadLog
  _ ← rule (nat_lt (slice_index v 1) h.caches) (here.at + 4) BadLog
  _ ← rule (nat_le 1 (slice_index v 2) && nat_le (slice_index v 2) MOST_CACHE_BYTES) (here.at + 8) BadLog
  _ ← rule (nat_lt (slice_index v 3) h.entries) (here.at + 16) BadLog
  _ ← rule (is_above (option_map (λ f. f.time) (last_of_list before)) (slice_index v 3)) (here.at + 16) BadLog
  Ok (fail_of v, fields.1)

-- how many bytes of a freed buffer are kept at most
abbrev pub kept_bytes : Header → ℕ
kept_bytes h = if has_bit h.flags CONTENTS then h.contents else DEFAULT_CONTENTS

-- the widths of the fields of what a freed buffer held: time, chunk and length
abbrev pub saved_widths : List ℕ
saved_widths = 8 ∷ 4 ∷ 4 ∷ []

-- what a freed buffer held; its bytes are a record of their own
unfoldable pub saved_item_at : Header → List Saved → Reader → Result (Saved × Reader) Flaw
saved_item_at h before here = do
  fields ← record_at saved_widths here
  let v = fields.0
  _ ← rule (nat_lt (slice_index v 0) h.entries) here.at BadLog
  _ ← rule (is_above (option_map (λ s. s.time) (last_of_list before)) (slice_index v 0)) here.at BadLog
  _ ← rule (nat_lt (slice_index v 1) h.next_chunk) (here.at + 8) BadLog
  _ ← rule (nat_le (slice_index v 2) (kept_bytes h)) (here.at + 12) BadLog
  bytes ← bytes_at (slice_index v 2) fields.1
  Ok (record { time = slice_index v 0; chunk = slice_index v 1; bytes = bytes.0 }, bytes.1)
