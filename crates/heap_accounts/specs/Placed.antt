-- Which histories are placed: each allocation of a chunk is answered with the chunk that the magazine rules give, and a
-- slab is made for it exactly where they find no round within reach and its pages are free.
use Rattle.std.specs.Prelude.{◌≡◌, ℕ, List, Option, Some, None, take, ⊤}
use Rattle.std.specs.List.{slice_get}
use Rattle.umem_base.specs.Pages.{HasNoRun}
use Rattle.case_table.specs.Sizes.{class_for}
use Rattle.script.specs.declared.operation.Op.{Op}
use Rattle.script.specs.declared.operation.Op.TheVariants.{Alloc, Zalloc, Free, CacheAlloc, CacheFree, Copy, Clear, Store, Link, Load, Reap}
use Rattle.shelf.specs.Steps.{chunk_in, taken_any, taken_from}
use Rattle.plain_heap.specs.declared.entry.Body.{Body}
use Rattle.plain_heap.specs.declared.entry.Body.TheVariants.{Call, Grow, Shrink}
use Rattle.plain_heap.specs.declared.entry.Entry.{Entry}
use Rattle.plain_heap.specs.declared.reply.Reply.{Reply}
use Rattle.plain_heap.specs.declared.reply.Reply.TheVariants as reply
use Rattle.plain_heap.specs.Setting.{Setting, geometry_in}
use Rattle.plain_heap.specs.State.{HeapSlab, IsFreePage, State, chunk_start}
use Rattle.heap_accounts.specs.Places.{Places, Placing, address_of, cpu_of, placing_of, stock_at}

-- ---- answers to allocations of a chunk

-- the answer is the address of the chunk of a number
abbrev pub IsAnsweredWith : Setting → State → ℕ → Reply → Type 0
IsAnsweredWith setting state chunk (reply.At address report) = address_of setting state chunk ≡ Some address
IsAnsweredWith setting state chunk other = ⊥

-- the answer is the address of the first chunk of a slab
abbrev pub IsAnsweredFirst : Setting → HeapSlab → Reply → Type 0
IsAnsweredFirst setting slab (reply.At address report) = address ≡ chunk_start setting slab 0
IsAnsweredFirst setting slab other = ⊥

-- the answer where no round is within reach and no slab can be made: the chunk that was found by looking at all CPUs,
-- and else no space
abbrev pub IsAnsweredAnyhow : Setting → State → Option ℕ → Reply → Type 0
IsAnsweredAnyhow setting state (Some chunk) answer = IsAnsweredWith setting state chunk answer
IsAnsweredAnyhow setting state None answer = answer ≡ reply.NoSpace

-- the answer where no slab was made: the chunk that was found within reach; else no run of pages is free for a slab of
-- the cache, and all CPUs were looked at
abbrev pub IsAnsweredWithin : Setting → State → ℕ → Option ℕ → Option ℕ → Reply → Type 0
IsAnsweredWithin setting state cache (Some chunk) anyhow answer = IsAnsweredWith setting state chunk answer
IsAnsweredWithin setting state cache None anyhow answer =
    HasNoRun (IsFreePage setting state) (geometry_in setting cache).pages
    × IsAnsweredAnyhow setting state anyhow answer

-- ---- entries

-- an allocation of a chunk of a cache is answered by the rules; where a slab was made directly before it, which is one
-- of the cache, it is answered with the slab's first chunk
abbrev pub IsPlacedChunk : Setting → State → Places → Option HeapSlab → ℕ → ℕ → Reply → Type 0
IsPlacedChunk setting state places None thread cache answer =
    let stock = stock_at places cache in
    let cpu = cpu_of setting thread in
    IsAnsweredWithin setting state cache (chunk_in (taken_from stock cpu)) (chunk_in (taken_any stock cpu)) answer
IsPlacedChunk setting state places (Some slab) thread cache answer =
    (slab.cache ≡ cache) × IsAnsweredFirst setting slab answer

-- an allocation of a size takes a chunk of its class, if one serves it; else no slab was made for it
abbrev pub IsPlacedRequest : Setting → State → Places → Option HeapSlab → ℕ → Option ℕ → Reply → Type 0
IsPlacedRequest setting state places made thread (Some class) answer =
    IsPlacedChunk setting state places made thread class answer
IsPlacedRequest setting state places made thread None answer = made ≡ None

-- a call of a thread is answered by the magazine rules; for one that takes no chunk no slab was made
abbrev pub IsPlacedCall : Setting → Placing → ℕ → Op → Reply → Type 0
IsPlacedCall setting placing thread (Alloc slot size) answer =
    IsPlacedRequest setting placing.state placing.places placing.made thread (class_for size) answer
IsPlacedCall setting placing thread (Zalloc slot size) answer =
    IsPlacedRequest setting placing.state placing.places placing.made thread (class_for size) answer
IsPlacedCall setting placing thread (CacheAlloc slot cache) answer =
    IsPlacedChunk setting placing.state placing.places placing.made thread cache answer
IsPlacedCall setting placing thread (Free slot size) answer = placing.made ≡ None
IsPlacedCall setting placing thread (CacheFree slot cache) answer = placing.made ≡ None
IsPlacedCall setting placing thread (Copy to from) answer = placing.made ≡ None
IsPlacedCall setting placing thread (Clear slot) answer = placing.made ≡ None
IsPlacedCall setting placing thread (Store slot offset stored) answer = placing.made ≡ None
IsPlacedCall setting placing thread (Link slot offset value) answer = placing.made ≡ None
IsPlacedCall setting placing thread (Load to slot offset) answer = placing.made ≡ None
IsPlacedCall setting placing thread Reap answer = placing.made ≡ None

-- the body of an entry of a thread keeps the magazine rules, by what the entries before it left: a slab is made where
-- its cache has no round within reach of the thread's CPU
abbrev pub IsPlacedBody : Setting → Placing → ℕ → Body → Type 0
IsPlacedBody setting placing thread (Call op frames answer) = IsPlacedCall setting placing thread op answer
IsPlacedBody setting placing thread (Grow cache base) =
    taken_from (stock_at placing.places cache) (cpu_of setting thread) ≡ None
IsPlacedBody setting placing thread (Shrink cache base) = ⊤

-- each entry keeps the magazine rules
abbrev pub IsPlaced : Setting → List Entry → Type 0
IsPlaced setting entries =
    (n : ℕ) (entry : Entry) → slice_get entries n ≡ Some entry
    → IsPlacedBody setting (placing_of setting (take n entries)) entry.thread entry.body
