-- A table that has, for each chunk, which entry made its last transaction.
use Rattle.std.specs.Prelude.{◌≡◌, ℕ, List, Option, filter_map, nat_eq, slice_get}
use Rattle.std.specs.Map.{lookup}
use Rattle.std.specs.Option.{option_and_then}
use Rattle.umem_options.specs.declared.options.Options.{Options}
use Rattle.trans_log.specs.declared.record.Trans.{Trans}
use Rattle.plain_heap.specs.declared.entry.Entry.{Entry}
use Rattle.heap_logs.specs.declared.act.Act.{Act}
use Rattle.heap_logs.specs.Audits.{last_transaction}
use Rattle.heap_logs.specs.Transactions.{transaction_of}

-- the transaction of the entry at an index, if it is one
abbrev pub transaction_at : Options → ℕ → List (Entry × Option Act) → ℕ → Option Trans
transaction_at options cpus acted index = option_and_then (transaction_of options cpus) (slice_get acted index)

-- the transaction to which a table leads from a chunk
abbrev pub told_by : Options → ℕ → List (Entry × Option Act) → List (ℕ × ℕ) → ℕ → Option Trans
told_by options cpus acted table chunk =
    option_and_then (transaction_at options cpus acted) (lookup (nat_eq chunk) table)

-- from each chunk a table leads to its last transaction among those of some first entries
abbrev pub TellsLast : Options → ℕ → List (Entry × Option Act) → List (Entry × Option Act) → List (ℕ × ℕ) → Type 0
TellsLast options cpus acted first table =
    (chunk : ℕ) → told_by options cpus acted table chunk
    ≡ last_transaction (filter_map (transaction_of options cpus) first) chunk
