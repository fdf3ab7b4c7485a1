-- How the book of live buffers answers a free.
use Rattle.std.specs.Prelude.{ℕ, Bool, ⊤, Option, None, is_some}
use Rattle.std.specs.FinMap.{get}
use Rattle.script.specs.declared.operation.Op.{Op}
use Rattle.script.specs.declared.operation.Op.TheVariants.{Alloc, Zalloc, Free, CacheAlloc, CacheFree, Copy, Clear, Store, Link, Load, Reap}
use Rattle.plain_heap.specs.declared.held.Held.{Held}
use Rattle.plain_heap.specs.declared.reply.Reply.{Reply}
use Rattle.plain_heap.specs.Live.{HeldByAddress, live_at}
use Rattle.plain_heap.specs.Replies.{free_answer, refusal_by_cache, refusal_by_size}

-- the operation gives back a buffer, by its size or to a cache
abbrev pub IsFreeOp : Op → Type 0
IsFreeOp (Free slot size) = ⊤
IsFreeOp (CacheFree slot cache) = ⊤
IsFreeOp (Alloc slot size) = ⊥
IsFreeOp (Zalloc slot size) = ⊥
IsFreeOp (CacheAlloc slot cache) = ⊥
IsFreeOp (Copy to from) = ⊥
IsFreeOp (Clear slot) = ⊥
IsFreeOp (Store slot offset stored) = ⊥
IsFreeOp (Link slot offset value) = ⊥
IsFreeOp (Load to slot offset) = ⊥
IsFreeOp Reap = ⊥

-- why a live buffer is not given back by an operation, if it is not; of other operations than frees nothing is said
abbrev pub refusal_of : Op → Held → Option Reply
refusal_of (Free slot size) held = refusal_by_size size held
refusal_of (CacheFree slot cache) held = refusal_by_cache cache held
refusal_of (Alloc slot size) held = None
refusal_of (Zalloc slot size) held = None
refusal_of (CacheAlloc slot cache) held = None
refusal_of (Copy to from) held = None
refusal_of (Clear slot) held = None
refusal_of (Store slot offset stored) held = None
refusal_of (Link slot offset value) held = None
refusal_of (Load to slot offset) held = None
refusal_of Reap held = None

-- the answer to a free of a word, by what was handed out, and whether the chunk there has a finding
abbrev pub judgement : HeldByAddress → Op → ℕ → Bool → Reply
judgement buffers op word has_finding =
    free_answer word (live_at buffers word) (is_some (get buffers word)) (refusal_of op) has_finding
