-- Which commit makes a call: by the operation alone.
use Rattle.std.specs.Prelude.{ℕ, Bool, true, false, not, ◌&&◌, ◌==◌, Option, None, Some, is_none, is_some, if◌then◌else◌}
use Rattle.case_table.specs.Sizes.{class_for}
use Rattle.script.specs.declared.operation.Op.{Op}
use Rattle.script.specs.declared.operation.Op.TheVariants.{Alloc, Zalloc, Free, CacheAlloc, CacheFree, Copy, Clear, Store, Link, Load, Reap}
use Rattle.plain_heap.specs.declared.held.Held.{Held}
use Rattle.plain_heap.specs.Setting.{Setting, cache_def_in}
use Rattle.heap_accounts.specs.declared.chunk_request.ChunkRequest.{ChunkRequest}
use Rattle.heap_accounts.specs.declared.large_request.LargeRequest.{LargeRequest}

-- nothing is handed out or given back: it is an allocation of no bytes, or moves, stores or loads words
abbrev pub is_plain_call : Op → Bool
is_plain_call (Alloc slot size) = size == 0
is_plain_call (Zalloc slot size) = size == 0
is_plain_call (Free slot size) = false
is_plain_call (CacheAlloc slot cache) = false
is_plain_call (CacheFree slot cache) = false
is_plain_call (Copy to from) = true
is_plain_call (Clear slot) = true
is_plain_call (Store slot offset stored) = true
is_plain_call (Link slot offset value) = true
is_plain_call (Load to slot offset) = true
is_plain_call Reap = false

-- a size that no class serves, and that asks for something
abbrev pub is_large_size : ℕ → Bool
is_large_size size = not (size == 0) && is_none (class_for size)

-- what an allocation asks of whole pages: the slot that gets the address, and the bytes
abbrev pub large_request : Op → Option LargeRequest
large_request (Alloc slot size) = if is_large_size size then Some (record { slot = slot; size = size }) else None
large_request (Zalloc slot size) = if is_large_size size then Some (record { slot = slot; size = size }) else None
large_request (Free slot size) = None
large_request (CacheAlloc slot cache) = None
large_request (CacheFree slot cache) = None
large_request (Copy to from) = None
large_request (Clear slot) = None
large_request (Store slot offset stored) = None
large_request (Link slot offset value) = None
large_request (Load to slot offset) = None
large_request Reap = None

-- whole pages are asked for
abbrev pub is_large : Op → Bool
is_large op = is_some (large_request op)

-- ---- chunks

-- what is asked of a class, if one serves the size
abbrev pub class_request : ℕ → ℕ → Bool → Option ℕ → Option ChunkRequest
class_request slot size zeroed None = None
class_request slot size zeroed (Some class) =
    Some (record { slot = slot; cache = class; size = size; zero = zeroed })

-- what an allocation asks of a cache
abbrev pub chunk_request : Setting → Op → Option ChunkRequest
chunk_request setting (Alloc slot size) = class_request slot size false (class_for size)
chunk_request setting (Zalloc slot size) = class_request slot size true (class_for size)
chunk_request setting (Free slot size) = None
chunk_request setting (CacheAlloc slot cache) =
    Some (record { slot = slot; cache = cache; size = (cache_def_in setting cache).size; zero = false })
chunk_request setting (CacheFree slot cache) = None
chunk_request setting (Copy to from) = None
chunk_request setting (Clear slot) = None
chunk_request setting (Store slot offset stored) = None
chunk_request setting (Link slot offset value) = None
chunk_request setting (Load to slot offset) = None
chunk_request setting Reap = None

-- what the buffer is that such an allocation hands out
abbrev pub held_by : ChunkRequest → Held
held_by request = record { size = request.size; cache = Some request.cache }

-- a chunk is asked for
abbrev pub is_chunk_call : Op → Bool
is_chunk_call (Alloc slot size) = is_some (class_for size)
is_chunk_call (Zalloc slot size) = is_some (class_for size)
is_chunk_call (Free slot size) = false
is_chunk_call (CacheAlloc slot cache) = true
is_chunk_call (CacheFree slot cache) = false
is_chunk_call (Copy to from) = false
is_chunk_call (Clear slot) = false
is_chunk_call (Store slot offset stored) = false
is_chunk_call (Link slot offset value) = false
is_chunk_call (Load to slot offset) = false
is_chunk_call Reap = false

-- ---- frees

-- the slot whose buffer an operation gives back, if it gives one back
abbrev pub freed_slot : Op → Option ℕ
freed_slot (Alloc slot size) = None
freed_slot (Zalloc slot size) = None
freed_slot (Free slot size) = Some slot
freed_slot (CacheAlloc slot cache) = None
freed_slot (CacheFree slot cache) = Some slot
freed_slot (Copy to from) = None
freed_slot (Clear slot) = None
freed_slot (Store slot offset stored) = None
freed_slot (Link slot offset value) = None
freed_slot (Load to slot offset) = None
freed_slot Reap = None

-- a buffer is given back
abbrev pub is_free : Op → Bool
is_free op = is_some (freed_slot op)

-- ---- reaps

-- it is a reap
abbrev pub is_reap_call : Op → Bool
is_reap_call (Alloc slot size) = false
is_reap_call (Zalloc slot size) = false
is_reap_call (Free slot size) = false
is_reap_call (CacheAlloc slot cache) = false
is_reap_call (CacheFree slot cache) = false
is_reap_call (Copy to from) = false
is_reap_call (Clear slot) = false
is_reap_call (Store slot offset stored) = false
is_reap_call (Link slot offset value) = false
is_reap_call (Load to slot offset) = false
is_reap_call Reap = true
