-- The transactions of a history: what its allocations and frees of chunks leave while audit is on.
use Rattle.std.specs.Prelude.{ℕ, ◌%◌, Bool, true, false, List, [], Option, None, option_map, take, zip, filter_map, if◌then◌else◌}
use Rattle.umem_options.specs.declared.options.Logging.{Logging}
use Rattle.umem_options.specs.declared.options.Options.{Options}
use Rattle.umem_options.specs.Capacity.{transaction_capacity}
use Rattle.umem_options.specs.Flags.{has_audit}
use Rattle.trans_log.specs.declared.kinds.TheConstants.{ALLOCATION, FREE}
use Rattle.trans_log.specs.declared.record.Trans.{Trans}
use Rattle.trans_log.specs.Last.{last_of}
use Rattle.script.specs.declared.operation.Op.{Op}
use Rattle.script.specs.declared.operation.Op.TheVariants.{Alloc, Zalloc, Free, CacheAlloc, CacheFree, Copy, Clear, Store, Link, Load, Reap}
use Rattle.plain_heap.specs.declared.entry.Body.{Body}
use Rattle.plain_heap.specs.declared.entry.Body.TheVariants.{Call, Grow, Shrink}
use Rattle.plain_heap.specs.declared.entry.Entry.{Entry}
use Rattle.plain_heap.specs.Setting.{Setting}
use Rattle.heap_logs.specs.declared.act.Act.{Act}
use Rattle.heap_logs.specs.Acts.{acts_of}

-- the operation asks for a buffer
abbrev pub is_allocation : Op → Bool
is_allocation (Alloc slot size) = true
is_allocation (Zalloc slot size) = true
is_allocation (CacheAlloc slot cache) = true
is_allocation (Free slot size) = false
is_allocation (CacheFree slot cache) = false
is_allocation (Copy to from) = false
is_allocation (Clear slot) = false
is_allocation (Store slot offset stored) = false
is_allocation (Link slot offset value) = false
is_allocation (Load to slot offset) = false
is_allocation Reap = false

-- the kind of a transaction, by the operation that made it
abbrev pub transaction_kind : Op → ℕ
transaction_kind op = if is_allocation op then ALLOCATION else FREE

-- the record of an act of a call, of so many CPUs: its thread's CPU, and the first frames, as many as the option says
abbrev pub transaction_record : Options → ℕ → ℕ → ℕ → Op → List ℕ → Act → Trans
transaction_record options cpus number thread op frames act = record {
  kind = transaction_kind op;
  cpu = thread % cpus;
  thread = thread;
  chunk = act.chunk;
  address = act.address;
  time = number;
  stack = take options.frames frames;
}

-- the transaction of the body of an entry, if it is a call that acted on a chunk
abbrev pub transaction_of_body : Options → ℕ → ℕ → ℕ → Body → Option Act → Option Trans
transaction_of_body options cpus number thread (Call op frames answer) act =
    option_map (transaction_record options cpus number thread op frames) act
transaction_of_body options cpus number thread (Grow cache base) act = None
transaction_of_body options cpus number thread (Shrink cache base) act = None

-- the transaction of an entry, by its act
abbrev pub transaction_of : Options → ℕ → Entry × Option Act → Option Trans
transaction_of options cpus acted =
    transaction_of_body options cpus acted.0.number acted.0.thread acted.0.body acted.1

-- the transactions of entries, by their acts; without audit there are none
abbrev pub transactions_by : Options → ℕ → List Entry → List (Option Act) → List Trans
transactions_by options cpus entries acts =
    if has_audit options then filter_map (transaction_of options cpus) (zip entries acts) else []

-- the transactions of a history
abbrev pub transactions_of : Options → Setting → List Entry → List Trans
transactions_of options setting entries =
    transactions_by options setting.header.cpus entries (acts_of setting entries)

-- the transaction log of a history: the last transactions, as many as the log holds
abbrev pub transaction_log : Options → Logging → Setting → List Entry → List Trans
transaction_log options logging setting entries =
    last_of (transaction_capacity logging options) (transactions_of options setting entries)
