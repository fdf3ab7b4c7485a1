-- The last transaction of each chunk of the slabs that stand.
use Rattle.std.specs.Prelude.{ℕ, ◌==◌, List, Option, option_map, filter_map, find, flat_map, map, reverse}
use Rattle.std.specs.List.{range_with_len}
use Rattle.umem_options.specs.declared.options.Options.{Options}
use Rattle.trans_log.specs.declared.record.Trans.{Trans}
use Rattle.core_format.specs.declared.items.AuditItem.{AuditItem}
use Rattle.plain_heap.specs.declared.entry.Entry.{Entry}
use Rattle.plain_heap.specs.Setting.{Setting, geometry_in}
use Rattle.plain_heap.specs.State.{HeapSlab, State, state_of}
use Rattle.heap_logs.specs.declared.chunk_range.ChunkRange.{ChunkRange}
use Rattle.heap_logs.specs.Transactions.{transactions_of}

-- the last of some transactions that is of a chunk
abbrev pub last_transaction : List Trans → ℕ → Option Trans
last_transaction transactions chunk = find (λ transaction. transaction.chunk == chunk) (reverse transactions)

-- what an audit keeps of a transaction
abbrev pub audit_record : Trans → AuditItem
audit_record transaction = record {
  chunk = transaction.chunk;
  thread = transaction.thread;
  time = transaction.time;
  stack = transaction.stack;
}

-- the audit of a chunk, if it has one
abbrev pub last_audit : List Trans → ℕ → Option AuditItem
last_audit transactions chunk = option_map audit_record (last_transaction transactions chunk)

-- the numbers of the chunks of a range
abbrev pub chunks_in : ChunkRange → List ℕ
chunks_in range = range_with_len range.first range.count

-- the audits of the chunks of some ranges, one range behind the other
abbrev pub audits_by : List Trans → List ChunkRange → List AuditItem
audits_by transactions standing = filter_map (last_audit transactions) (flat_map chunks_in standing)

-- the chunks of a slab
abbrev pub chunks_of_slab : Setting → HeapSlab → ChunkRange
chunks_of_slab setting slab = record { first = slab.first; count = (geometry_in setting slab.cache).rounds }

-- the chunks of the slabs that stand, the oldest slab first, and so by rising number
abbrev pub standing_chunks : Setting → State → List ChunkRange
standing_chunks setting state = map (chunks_of_slab setting) (reverse state.slabs)

-- the audits of a history, by rising chunk
abbrev pub audits_of : Options → Setting → List Entry → List AuditItem
audits_of options setting entries =
    audits_by (transactions_of options setting entries) (standing_chunks setting (state_of setting entries))
