-- The allocations of a history that found no chunk.
use Rattle.std.specs.Prelude.{ℕ, List, Option, Some, None, option_map, filter_map}
use Rattle.umem_options.specs.declared.options.Logging.{Logging}
use Rattle.umem_options.specs.Capacity.{fail_capacity}
use Rattle.case_table.specs.declared.cache_def.CacheDef.{CacheDef}
use Rattle.case_table.specs.Sizes.{class_for}
use Rattle.trans_log.specs.declared.record.Fail.{Fail}
use Rattle.trans_log.specs.Last.{last_of}
use Rattle.script.specs.declared.operation.Op.{Op}
use Rattle.script.specs.declared.operation.Op.TheVariants.{Alloc, Zalloc, Free, CacheAlloc, CacheFree, Copy, Clear, Store, Link, Load, Reap}
use Rattle.plain_heap.specs.declared.entry.Body.{Body}
use Rattle.plain_heap.specs.declared.entry.Body.TheVariants.{Call, Grow, Shrink}
use Rattle.plain_heap.specs.declared.entry.Entry.{Entry}
use Rattle.plain_heap.specs.declared.reply.Reply.{Reply}
use Rattle.plain_heap.specs.declared.reply.Reply.TheVariants as reply
use Rattle.plain_heap.specs.Setting.{def_of}

-- an allocation of some bytes from a cache failed
abbrev pub fail_record : ℕ → ℕ → ℕ → ℕ → Fail
fail_record number thread size cache = record { thread = thread; cache = cache; size = size; time = number }

-- what a failed operation asked of a cache: of a size class some bytes, of a declared cache an object. One that asks
-- for whole pages asks nothing of a cache.
abbrev pub fail_of_op : List CacheDef → ℕ → ℕ → Op → Option Fail
fail_of_op caches number thread (Alloc slot size) = option_map (fail_record number thread size) (class_for size)
fail_of_op caches number thread (Zalloc slot size) = option_map (fail_record number thread size) (class_for size)
fail_of_op caches number thread (CacheAlloc slot cache) =
    Some (fail_record number thread (def_of caches cache).size cache)
fail_of_op caches number thread (Free slot size) = None
fail_of_op caches number thread (CacheFree slot cache) = None
fail_of_op caches number thread (Copy to from) = None
fail_of_op caches number thread (Clear slot) = None
fail_of_op caches number thread (Store slot offset stored) = None
fail_of_op caches number thread (Link slot offset value) = None
fail_of_op caches number thread (Load to slot offset) = None
fail_of_op caches number thread Reap = None

-- a call failed where it was answered that there is no space
abbrev pub fail_of_call : List CacheDef → ℕ → ℕ → Op → Reply → Option Fail
fail_of_call caches number thread op reply.NoSpace = fail_of_op caches number thread op
fail_of_call caches number thread op other = None

-- the fail of the body of an entry, if it is a call that failed
abbrev pub fail_of_body : List CacheDef → ℕ → ℕ → Body → Option Fail
fail_of_body caches number thread (Call op frames answer) = fail_of_call caches number thread op answer
fail_of_body caches number thread (Grow cache base) = None
fail_of_body caches number thread (Shrink cache base) = None

-- the fail of an entry
abbrev pub fail_of_entry : List CacheDef → Entry → Option Fail
fail_of_entry caches entry = fail_of_body caches entry.number entry.thread entry.body

-- the fails of a history
abbrev pub fails_of : List CacheDef → List Entry → List Fail
fails_of caches entries = filter_map (fail_of_entry caches) entries

-- the fail log of a history: the last fails, as many as the log holds
abbrev pub fail_log : Logging → List CacheDef → List Entry → List Fail
fail_log logging caches entries = last_of (fail_capacity logging) (fails_of caches entries)
