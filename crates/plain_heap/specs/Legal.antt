-- Which histories are legal: the duty of each entry, by what the entries before it left.
use Rattle.std.specs.Prelude.{◌≡◌, ℕ, ◌+◌, ◌<◌, ◌==◌, List, Option, Some, None, Contains, take, drop, find, ⊤}
use Rattle.std.specs.List.{slice_get}
use Rattle.umem_base.specs.Pages.{IsFreeRun, IsPage}
use Rattle.script.specs.declared.operation.Op.{Op}
use Rattle.script.specs.declared.operation.Op.TheVariants.{Alloc, Zalloc, Free, CacheAlloc, CacheFree, Copy, Clear, Store, Link, Load, Reap}
use Rattle.plain_heap.specs.declared.entry.Body.{Body}
use Rattle.plain_heap.specs.declared.entry.Body.TheVariants.{Call, Grow, Shrink}
use Rattle.plain_heap.specs.declared.entry.Entry.{Entry}
use Rattle.plain_heap.specs.declared.reply.Reply.{Reply}
use Rattle.plain_heap.specs.declared.reply.Reply.TheVariants as reply
use Rattle.plain_heap.specs.Setting.{IsCache, Setting, geometry_in}
use Rattle.plain_heap.specs.State.{HeapSlab, IsChunkOf, IsFreePage, State, held_at, new_slab, state_of}
use Rattle.plain_heap.specs.Replies.{IsReply}

-- ---- what stands behind an inner entry

-- the next entry of a thread, if there is one
abbrev pub next_of_thread : ℕ → List Entry → Option Entry
next_of_thread thread later = find (λ entry. entry.thread == thread) later

-- an allocation was answered with a chunk of a slab
abbrev pub IsAnsweredFrom : Setting → HeapSlab → Reply → Type 0
IsAnsweredFrom setting slab (reply.At address report) = IsChunkOf setting slab address
IsAnsweredFrom setting slab other = ⊥

-- the call is an allocation that was answered with a chunk of a slab, whatever it asked for
abbrev pub IsAllocFrom : Setting → HeapSlab → Op → Reply → Type 0
IsAllocFrom setting slab (Alloc slot size) answer = IsAnsweredFrom setting slab answer
IsAllocFrom setting slab (Zalloc slot size) answer = IsAnsweredFrom setting slab answer
IsAllocFrom setting slab (CacheAlloc slot cache) answer = IsAnsweredFrom setting slab answer
IsAllocFrom setting slab (Free slot size) answer = ⊥
IsAllocFrom setting slab (CacheFree slot cache) answer = ⊥
IsAllocFrom setting slab (Copy to from) answer = ⊥
IsAllocFrom setting slab (Clear slot) answer = ⊥
IsAllocFrom setting slab (Store slot offset stored) answer = ⊥
IsAllocFrom setting slab (Link slot offset value) answer = ⊥
IsAllocFrom setting slab (Load to slot offset) answer = ⊥
IsAllocFrom setting slab Reap answer = ⊥

-- the entry hands out a chunk of a slab
abbrev pub HandsOutFrom : Setting → HeapSlab → Body → Type 0
HandsOutFrom setting slab (Call op frames answer) = IsAllocFrom setting slab op answer
HandsOutFrom setting slab (Grow cache base) = ⊥
HandsOutFrom setting slab (Shrink cache base) = ⊥

-- the call is a reap
abbrev pub IsReap : Op → Type 0
IsReap (Alloc slot size) = ⊥
IsReap (Zalloc slot size) = ⊥
IsReap (Free slot size) = ⊥
IsReap (CacheAlloc slot cache) = ⊥
IsReap (CacheFree slot cache) = ⊥
IsReap (Copy to from) = ⊥
IsReap (Clear slot) = ⊥
IsReap (Store slot offset stored) = ⊥
IsReap (Link slot offset value) = ⊥
IsReap (Load to slot offset) = ⊥
IsReap Reap = ⊤

-- the entry is a shrink, or a reap with any answer
abbrev pub IsReaping : Body → Type 0
IsReaping (Call op frames answer) = IsReap op
IsReaping (Grow cache base) = ⊥
IsReaping (Shrink cache base) = ⊤

-- ---- the duties of inner entries

-- a grow is of a cache, at a page, over free pages, and the next entry of its thread hands out a chunk of its slab
pub record IsGrow (setting : Setting) (state : State) (cache base : ℕ) (next : Option Entry) : Type 0 where
  pub is_cache : IsCache setting.header.caches cache
  pub page : IsPage base
  pub free : IsFreeRun (IsFreePage setting state) (geometry_in setting cache).pages base
  pub entry : Entry
  pub follows : next ≡ Some entry
  pub used : HandsOutFrom setting (new_slab setting state cache base) entry.body

-- no chunk of the slab lives
abbrev pub IsUnused : Setting → State → HeapSlab → Type 0
IsUnused setting state slab =
    (address : ℕ) → IsChunkOf setting slab address → held_at state.live address ≡ None

-- a shrink names the cache and the base of a slab that stands, of which no chunk lives, and the next entry of its
-- thread is another shrink or a reap
pub record IsShrink (setting : Setting) (state : State) (cache base : ℕ) (next : Option Entry) : Type 0 where
  pub slab : HeapSlab
  pub stands : Contains state.slabs slab
  pub its_cache : slab.cache ≡ cache
  pub its_base : slab.base ≡ base
  pub unused : IsUnused setting state slab
  pub entry : Entry
  pub follows : next ≡ Some entry
  pub reaped : IsReaping entry.body

-- ---- legality

-- the body of an entry of a thread is allowed, by what the entries before it left and the next entry of its thread
abbrev pub IsLegalBody : Setting → State → ℕ → Body → Option Entry → Type 0
IsLegalBody setting state thread (Call op frames answer) next = IsReply setting state thread op answer
IsLegalBody setting state thread (Grow cache base) next = IsGrow setting state cache base next
IsLegalBody setting state thread (Shrink cache base) next = IsShrink setting state cache base next

-- the entry at a place has its number, and is allowed
pub record IsLegalEntry (setting : Setting) (entries : List Entry) (n : ℕ) (entry : Entry) : Type 0 where
  pub number : entry.number ≡ n
  pub body : IsLegalBody setting (state_of setting (take n entries)) entry.thread entry.body
      (next_of_thread entry.thread (drop (n + 1) entries))

-- each entry is legal
abbrev pub IsLegal : Setting → List Entry → Type 0
IsLegal setting entries =
    (n : ℕ) (entry : Entry) → slice_get entries n ≡ Some entry → IsLegalEntry setting entries n entry

-- the entry at a place is not legal, and each before it is
pub record IsFirstIllegal (setting : Setting) (entries : List Entry) (n : ℕ) : Type 0 where
  pub entry : Entry
  pub there : slice_get entries n ≡ Some entry
  pub illegal : ¬ IsLegalEntry setting entries n entry
  pub before : (k : ℕ) (earlier : Entry) → k < n → slice_get entries k ≡ Some earlier
      → IsLegalEntry setting entries k earlier
