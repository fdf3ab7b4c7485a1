-- Which answers a plain allocator may give to a call, by what the entries before it left.
use Rattle.std.specs.Prelude.{◌≡◌, ℕ, zero, suc, ◌+◌, Bool, false, ◌==◌, Option, Some, None, IsTrue, is_some, nat_le, length, if◌then◌else◌}
use Rattle.std.specs.Option.{option_and_then, option_eq}
use Rattle.umem_base.specs.Pages.{pages_for, IsFreeRun, HasNoRun}
use Rattle.case_table.specs.declared.limits.TheConstants.{CLASS_COUNT}
use Rattle.case_table.specs.declared.slab_formulas.TheConstants.{TAG_BYTES}
use Rattle.case_table.specs.Sizes.{class_for}
use Rattle.buftag.specs.declared.finding.Finding.{Finding}
use Rattle.buftag.specs.declared.finding.Finding.TheVariants as found
use Rattle.buftag.specs.declared.state.State.TheVariants as chunk_state
use Rattle.buftag.specs.declared.state.State.{State as ChunkState}
use Rattle.buftag.specs.Findings.{finding}
use Rattle.script.specs.declared.operation.Op.{Op}
use Rattle.script.specs.declared.operation.Op.TheVariants.{Alloc, Zalloc, Free, CacheAlloc, CacheFree, Copy, Clear, Store, Link, Load, Reap}
use Rattle.plain_heap.specs.declared.held.Held.{Held}
use Rattle.plain_heap.specs.declared.reply.Reply.{Reply}
use Rattle.plain_heap.specs.declared.reply.Reply.TheVariants as reply
use Rattle.plain_heap.specs.declared.reply.Report.{Report}
use Rattle.plain_heap.specs.declared.reply.Report.TheVariants as report
use Rattle.plain_heap.specs.Bytes.{bytes_from, word_at}
use Rattle.plain_heap.specs.Setting.{Setting, geometry_in, shape_in}
use Rattle.plain_heap.specs.State.{HeapSlab, IsChunkOfCache, IsFreePage, State, held_at, is_live, is_mapped_range, chunk_number, slab_with_chunk, was_given, word_of_slot}

-- ---- what a chunk's bytes tell

-- the finding of the chunk of a slab that begins at an address, as one in that state, by the bytes that it holds
abbrev pub finding_of_chunk : Setting → State → ℕ → ChunkState → HeapSlab → Option Finding
finding_of_chunk setting state address chunk slab =
    let shape = shape_in setting slab.cache (chunk_number setting slab address) in
    finding (bytes_from state.bytes address (shape.content + TAG_BYTES)) shape chunk

-- the finding of the chunk that begins at an address; none without guards, and where no chunk begins
abbrev pub finding_at : Setting → State → ℕ → ChunkState → Option Finding
finding_at setting state address chunk =
    if setting.guards
    then option_and_then (finding_of_chunk setting state address chunk) (slab_with_chunk setting state.slabs address)
    else None

-- what is reported of a chunk that is handed out, by its finding as a free one
abbrev pub report_of : Option Finding → Report
report_of None = report.Clean
report_of (Some (found.Content offset)) = report.Modified offset
report_of (Some found.Redzone) = report.Redzone
report_of (Some found.BadTag) = report.Redzone
report_of (Some found.SizeCode) = report.Clean
report_of (Some found.GuardByte) = report.Clean
report_of (Some (found.Unconstructed offset)) = report.Clean

-- what is reported of the chunk at an address when it is handed out
abbrev pub report_at : Setting → State → ℕ → Report
report_at setting state address = report_of (finding_at setting state address chunk_state.Free)

-- ---- allocations

-- an address that a cache may hand out: a chunk of it begins there, and nothing lives there
pub record IsChoice (setting : Setting) (state : State) (cache address : ℕ) : Type 0 where
  pub chunk : IsChunkOfCache setting state cache address
  pub free : held_at state.live address ≡ None

-- an address at which a large buffer may be handed out: its pages are free
abbrev pub IsLarge : Setting → State → ℕ → ℕ → Type 0
IsLarge setting state size address = IsFreeRun (IsFreePage setting state) (pages_for size) address

-- a cache has nothing to hand out: each chunk of it lives, and no run of pages is free for a slab
pub record IsCacheFull (setting : Setting) (state : State) (cache : ℕ) : Type 0 where
  pub live : (address : ℕ) → IsChunkOfCache setting state cache address → IsTrue (is_live state address)
  pub no_run : HasNoRun (IsFreePage setting state) (geometry_in setting cache).pages

-- the answers to an allocation from a cache
abbrev pub IsCacheReply : Setting → State → ℕ → Reply → Type 0
IsCacheReply setting state cache (reply.At address found) =
    IsChoice setting state cache address × (found ≡ report_at setting state address)
IsCacheReply setting state cache reply.NoSpace = IsCacheFull setting state cache
IsCacheReply setting state cache other = ⊥

-- the answers to an allocation of whole pages
abbrev pub IsLargeReply : Setting → State → ℕ → Reply → Type 0
IsLargeReply setting state size (reply.At address found) =
    IsLarge setting state size address × (found ≡ report.Clean)
IsLargeReply setting state size reply.NoSpace = HasNoRun (IsFreePage setting state) (pages_for size)
IsLargeReply setting state size other = ⊥

-- the answers to an allocation of some bytes: by its class, or by whole pages where no class serves it
abbrev pub IsSomeReply : Setting → State → ℕ → Option ℕ → Reply → Type 0
IsSomeReply setting state size (Some class) answer = IsCacheReply setting state class answer
IsSomeReply setting state size None answer = IsLargeReply setting state size answer

-- the answers to an allocation of a size, of which none is asked for by 0
abbrev pub IsAllocReply : Setting → State → ℕ → Reply → Type 0
IsAllocReply setting state zero answer = answer ≡ reply.Null
IsAllocReply setting state (suc size) answer = IsSomeReply setting state (suc size) (class_for (suc size)) answer

-- ---- frees

-- the cache of a buffer, if it is of one, is a declared one
abbrev pub is_declared : Option ℕ → Bool
is_declared None = false
is_declared (Some cache) = nat_le CLASS_COUNT cache

-- why a live buffer is not given back by a size, if it is not: it is of a declared cache, or of another size
abbrev pub refusal_by_size : ℕ → Held → Option Reply
refusal_by_size size held =
    if is_declared held.cache then Some reply.BadCache
    else (if held.size == size then None else Some reply.BadSize)

-- why a live buffer is not given back to a cache, if it is not: it is not of that cache
abbrev pub refusal_by_cache : ℕ → Held → Option Reply
refusal_by_cache cache held =
    if option_eq (λ a b. a == b) held.cache (Some cache) then None else Some reply.BadCache

-- the answer to a free of a live buffer, by why it is refused, if it is, and whether its chunk has a finding
abbrev pub live_answer : Option Reply → Bool → Reply
live_answer (Some refusal) has_finding = refusal
live_answer None has_finding = if has_finding then reply.Redzone else reply.Ok

-- the answer to a free of a word that is not 0, by what lives there and whether it was ever handed out
abbrev pub word_answer : Option Held → Bool → (Held → Option Reply) → Bool → Reply
word_answer None given refusal has_finding = if given then reply.Dup else reply.BadAddr
word_answer (Some held) given refusal has_finding = live_answer (refusal held) has_finding

-- the answer to a free of a word: the first that applies
abbrev pub free_answer : ℕ → Option Held → Bool → (Held → Option Reply) → Bool → Reply
free_answer word held given refusal has_finding =
    if word == 0 then reply.Null else word_answer held given refusal has_finding

-- the chunk that lives at an address has a finding
abbrev pub has_finding_at : Setting → State → ℕ → Bool
has_finding_at setting state address = is_some (finding_at setting state address chunk_state.Allocated)

-- the answer to a free of a slot's word
abbrev pub free_answer_in : Setting → State → ℕ → (Held → Option Reply) → Reply
free_answer_in setting state word refusal =
    free_answer word (held_at state.live word) (was_given state word) refusal (has_finding_at setting state word)

-- ---- stores and loads

-- the answer to a store or load behind a slot's word, by whether the range is mapped: the first that applies
abbrev pub range_answer : ℕ → Bool → Reply → Reply
range_answer word mapped done = if word == 0 then reply.Null else (if mapped then done else reply.Fault)

-- the answer to a store of so many bytes behind a slot's word
abbrev pub store_answer : Setting → State → ℕ → ℕ → ℕ → Reply
store_answer setting state word offset count =
    range_answer word (is_mapped_range setting state (word + offset) count) reply.Ok

-- the answer to a load behind a slot's word
abbrev pub load_answer : Setting → State → ℕ → ℕ → Reply
load_answer setting state word offset =
    range_answer word (is_mapped_range setting state (word + offset) 8)
    (reply.Word (word_at state.bytes (word + offset)))

-- ---- calls

-- the answers that are allowed to a call of a thread
abbrev pub IsReply : Setting → State → ℕ → Op → Reply → Type 0
IsReply setting state thread (Alloc slot size) answer = IsAllocReply setting state size answer
IsReply setting state thread (Zalloc slot size) answer = IsAllocReply setting state size answer
IsReply setting state thread (CacheAlloc slot cache) answer = IsCacheReply setting state cache answer
IsReply setting state thread (Free slot size) answer =
    answer ≡ free_answer_in setting state (word_of_slot state thread slot) (refusal_by_size size)
IsReply setting state thread (CacheFree slot cache) answer =
    answer ≡ free_answer_in setting state (word_of_slot state thread slot) (refusal_by_cache cache)
IsReply setting state thread (Copy to from) answer = answer ≡ reply.Ok
IsReply setting state thread (Clear slot) answer = answer ≡ reply.Ok
IsReply setting state thread (Store slot offset stored) answer =
    answer ≡ store_answer setting state (word_of_slot state thread slot) offset (length stored)
IsReply setting state thread (Link slot offset value) answer =
    answer ≡ store_answer setting state (word_of_slot state thread slot) offset 8
IsReply setting state thread (Load to slot offset) answer =
    answer ≡ load_answer setting state (word_of_slot state thread slot) offset
IsReply setting state thread Reap answer = answer ≡ reply.Ok
