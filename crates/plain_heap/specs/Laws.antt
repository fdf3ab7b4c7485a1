-- What follows of the definitions of this crate: the statements, which laws prove.
use Rattle.std.specs.Prelude.{◌≡◌, ◌≢◌, ℕ, ◌+◌, ◌<◌, ◌≤◌, ◌⊎◌, Bool, not, ◌&&◌, ◌||◌, ◌==◌, List, [], ◌∷◌, ◌++◌, Option, Some, None, All, AllPairs, Contains, length, ⊤, if◌then◌else◌}
use Rattle.std.specs.List.{slice_get}
use Rattle.umem_base.specs.declared.arena.TheConstants.{ARENA_BASE}
use Rattle.umem_base.specs.declared.span.Span.{Span}
use Rattle.umem_base.specs.Ordered.{left_out_by}
use Rattle.umem_base.specs.Pages.{IsFreeRun, IsLowestRun}
use Rattle.umem_base.specs.Roots.{arena_end}
use Rattle.umem_base.specs.Span.{EndsBelow, IsSpanWithin}
use Rattle.script.specs.declared.operation.Op.{Op}
use Rattle.script.specs.declared.operation.Op.TheVariants.{Alloc, Zalloc, Free, CacheAlloc, CacheFree, Copy, Clear, Store, Link, Load, Reap}
use Rattle.script.specs.declared.tree.Header.{Header}
use Rattle.script.specs.Plan.{Plan}
use Rattle.script.specs.Rules.{IsHeader, IsOp, IsPlan}
use Rattle.plain_heap.specs.declared.entry.Body.{Body}
use Rattle.plain_heap.specs.declared.entry.Body.TheVariants.{Call, Grow, Shrink}
use Rattle.plain_heap.specs.declared.entry.Entry.{Entry}
use Rattle.plain_heap.specs.declared.held.Held.{Held}
use Rattle.plain_heap.specs.declared.reply.Reply.{Reply}
use Rattle.plain_heap.specs.declared.reply.Reply.TheVariants as reply
use Rattle.plain_heap.specs.Setting.{Setting, geometry_in}
use Rattle.plain_heap.specs.State.{HeapSlab, IsChunkOfCache, IsFreePage, LiveBuffer, State, after_entry, after_grow, after_shrink, give_back, hand_out, held_at, is_in_span, is_taken, span_of_large, span_of_slab, spans_of, state_of, new_slab, word_of_slot}
use Rattle.plain_heap.specs.Legal.{IsLegal, IsLegalBody, IsLegalEntry}
use Rattle.plain_heap.specs.Calls.{Follows, IsNext}
use Rattle.plain_heap.specs.Answers.{Answers}
use Rattle.plain_heap.specs.Texts.{transcript_text}

-- ---- live buffers

-- two runs of pages never meet
abbrev pub StandApart : Span → Span → Type 0
StandApart one other = EndsBelow one other ⊎ EndsBelow other one

-- the requested bytes of two live buffers never meet
abbrev pub NeverMeet : LiveBuffer → LiveBuffer → Type 0
NeverMeet one other =
    (one.address + one.held.size ≤ other.address) ⊎ (other.address + other.held.size ≤ one.address)

-- a buffer of a cache lies in the content of one chunk of it; a large one has a run of pages
abbrev pub LiesInPlace : Setting → State → ℕ → ℕ → Option ℕ → Type 0
LiesInPlace setting state address size (Some cache) =
    IsChunkOfCache setting state cache address × (size ≤ (geometry_in setting cache).content)
LiesInPlace setting state address size None =
    Contains (spans_of setting state) (span_of_large (record {
      address = address;
      held = record { size = size; cache = None };
    }))

-- how live buffers and runs of pages stand: runs lie in the arena and never meet, each buffer lies in a chunk of its
-- cache or in a run of its own, and no two buffers meet or have one address
pub record AreSeparate (setting : Setting) (state : State) : Type 0 where
  pub within : All (IsSpanWithin ARENA_BASE (arena_end setting.header.version)) (spans_of setting state)
  pub apart : AllPairs StandApart (spans_of setting state)
  pub addresses : AllPairs (λ one other. one.address ≢ other.address) state.live
  pub inside : All (λ buffer. LiesInPlace setting state buffer.address buffer.held.size buffer.held.cache) state.live
  pub buffers : AllPairs NeverMeet state.live

-- the live buffers of a legal history never meet, and each lies inside one chunk of its cache or inside a run of pages
-- of its own
abbrev pub LiveBuffersAreDisjoint : Type 0
LiveBuffersAreDisjoint =
    (setting : Setting) (entries : List Entry) → IsHeader setting.header → IsLegal setting entries
    → AreSeparate setting (state_of setting entries)

-- ---- transcripts

-- two histories that answer one plan and are printed alike are one
abbrev pub TranscriptsDecideHistories : Type 0
TranscriptsDecideHistories =
    (guards : Bool) (plan : Plan) (one other : List Entry) → IsPlan plan
    → Answers guards plan one → Answers guards plan other
    → transcript_text plan.header guards one ≡ transcript_text plan.header guards other → one ≡ other

-- ---- one entry more

-- what a longer history leaves is what its last entry makes of what the others left
abbrev pub OneEntryMoreIsOneStep : Type 0
OneEntryMoreIsOneStep =
    (setting : Setting) (entries : List Entry) (entry : Entry)
    → state_of setting (entries ++ entry ∷ []) ≡ after_entry setting (state_of setting entries) entry

-- a buffer that was given back is the only one that lives no more
abbrev pub GivingBackLeavesTheOthers : Type 0
GivingBackLeavesTheOthers =
    (live : List LiveBuffer) (freed address : ℕ)
    → held_at (left_out_by (λ buffer. buffer.address) live freed) address
    ≡ (if freed == address then None else held_at live address)

-- a legal history stays legal by entries that are legal behind it
abbrev pub LegalHistoriesGrow : Type 0
LegalHistoriesGrow =
    (setting : Setting) (entries more : List Entry) → IsLegal setting entries
    → ((n : ℕ) (entry : Entry) → slice_get more n ≡ Some entry
    → IsLegalEntry setting (entries ++ more) (length entries + n) entry)
    → IsLegal setting (entries ++ more)

-- ---- chunks

-- an allocation was answered with an address
abbrev pub IsAnsweredAt : Reply → ℕ → Type 0
IsAnsweredAt (reply.At address report) at = address ≡ at
IsAnsweredAt other at = ⊥

-- an address is one of so many from another on
abbrev pub IsOver : ℕ → ℕ → ℕ → Type 0
IsOver from count address = (from ≤ address) × (address < from + count)

-- an answered allocation or free of the buffer at an address, or an answered store over the byte at an offset from it
abbrev pub TouchesByCall : State → ℕ → Op → Reply → ℕ → ℕ → Type 0
TouchesByCall state thread (Alloc slot size) answer at k = IsAnsweredAt answer at
TouchesByCall state thread (Zalloc slot size) answer at k = IsAnsweredAt answer at
TouchesByCall state thread (CacheAlloc slot cache) answer at k = IsAnsweredAt answer at
TouchesByCall state thread (Free slot size) answer at k = (answer ≡ reply.Ok) × (word_of_slot state thread slot ≡ at)
TouchesByCall state thread (CacheFree slot cache) answer at k =
    (answer ≡ reply.Ok) × (word_of_slot state thread slot ≡ at)
TouchesByCall state thread (Store slot offset stored) answer at k =
    (answer ≡ reply.Ok) × IsOver (word_of_slot state thread slot + offset) (length stored) (at + k)
TouchesByCall state thread (Link slot offset value) answer at k =
    (answer ≡ reply.Ok) × IsOver (word_of_slot state thread slot + offset) 8 (at + k)
TouchesByCall state thread (Copy to from) answer at k = ⊥
TouchesByCall state thread (Clear slot) answer at k = ⊥
TouchesByCall state thread (Load to slot offset) answer at k = ⊥
TouchesByCall state thread Reap answer at k = ⊥

-- the same for the body of an entry of a thread; an inner entry touches no chunk of a slab that stands
abbrev pub TouchesByBody : State → ℕ → Body → ℕ → ℕ → Type 0
TouchesByBody state thread (Call op frames answer) at k = TouchesByCall state thread op answer at k
TouchesByBody state thread (Grow cache base) at k = ⊥
TouchesByBody state thread (Shrink cache base) at k = ⊥

-- an entry may change the byte at an offset of the chunk that begins at an address
abbrev pub Touches : State → Entry → ℕ → ℕ → Type 0
Touches state entry at k = TouchesByBody state entry.thread entry.body at k

-- a call is one of a thread of the header, and its arguments keep their limits, so that its slots are root words
abbrev pub KeepsLimits : Header → ℕ → Body → Type 0
KeepsLimits header thread (Call op frames answer) = (thread < header.threads) × IsOp header op
KeepsLimits header thread (Grow cache base) = ⊤
KeepsLimits header thread (Shrink cache base) = ⊤

-- the bytes of a chunk of a slab that stands are changed by its own allocation and free and by stores over it alone
abbrev pub ChunksKeepTheirBytes : Type 0
ChunksKeepTheirBytes =
    (setting : Setting) (entries : List Entry) (entry : Entry) (next : Option Entry) (cache at k : ℕ)
    → IsHeader setting.header → IsLegal setting entries → KeepsLimits setting.header entry.thread entry.body
    → IsLegalBody setting (state_of setting entries) entry.thread entry.body next
    → IsChunkOfCache setting (state_of setting entries) cache at → k < (geometry_in setting cache).chunk
    → ¬ Touches (state_of setting entries) entry at k
    → (after_entry setting (state_of setting entries) entry).bytes (at + k)
    ≡ (state_of setting entries).bytes (at + k)

-- ---- pages

-- a grow takes the pages of its slab, and no other page changes
abbrev pub GrowsTakeTheirPages : Type 0
GrowsTakeTheirPages =
    (setting : Setting) (state : State) (cache base address : ℕ)
    → is_taken setting (after_grow setting state cache base) address
    ≡ (is_in_span address (span_of_slab setting (new_slab setting state cache base))
    || is_taken setting state address)

-- a legal shrink frees the pages of its slab, and no other page changes
abbrev pub ShrinksFreeTheirPages : Type 0
ShrinksFreeTheirPages =
    (setting : Setting) (entries : List Entry) (slab : HeapSlab) (address : ℕ)
    → IsHeader setting.header → IsLegal setting entries → Contains (state_of setting entries).slabs slab
    → is_taken setting (after_shrink (state_of setting entries) slab.base) address
    ≡ (not (is_in_span address (span_of_slab setting slab)) && is_taken setting (state_of setting entries) address)

-- a large buffer of a size
abbrev pub large : ℕ → Held
large size = record { size = size; cache = None }

-- a large buffer takes its pages when it is handed out, and no other page changes
abbrev pub LargeBuffersTakeTheirPages : Type 0
LargeBuffersTakeTheirPages =
    (setting : Setting) (state : State) (size at address : ℕ) (zero : Bool)
    → is_taken setting (hand_out setting state at (large size) zero) address
    ≡ (is_in_span address (span_of_large (record { address = at; held = large size }))
    || is_taken setting state address)

-- a live large buffer frees its pages when it is given back, and no other page changes
abbrev pub LargeBuffersFreeTheirPages : Type 0
LargeBuffersFreeTheirPages =
    (setting : Setting) (entries : List Entry) (size at address : ℕ)
    → IsHeader setting.header → IsLegal setting entries
    → held_at (state_of setting entries).live at ≡ Some (large size)
    → is_taken setting (give_back setting (state_of setting entries) at) address
    ≡ (not (is_in_span address (span_of_large (record { address = at; held = large size })))
    && is_taken setting (state_of setting entries) address)

-- a buffer of a cache takes and frees no page
abbrev pub ChunksTakeNoPages : Type 0
ChunksTakeNoPages =
    (setting : Setting) (state : State) (size cache at address : ℕ) (zero : Bool)
    → is_taken setting (hand_out setting state at (record { size = size; cache = Some cache }) zero) address
    ≡ is_taken setting state address

-- there is one lowest run of a length at most
abbrev pub LowestRunsAreOne : Type 0
LowestRunsAreOne =
    (setting : Setting) (state : State) (pages one other : ℕ)
    → IsLowestRun (IsFreePage setting state) pages one → IsLowestRun (IsFreePage setting state) pages other
    → one ≡ other

-- where a run of some pages is free, there is a lowest one
abbrev pub FreeRunsHaveALowest : Type 0
FreeRunsHaveALowest =
    (setting : Setting) (state : State) (pages base : ℕ) → IsFreeRun (IsFreePage setting state) pages base
    → (lowest : ℕ) × IsLowestRun (IsFreePage setting state) pages lowest

-- ---- plans

-- what follows a plan so far, did so at each earlier entry
abbrev pub FollowingIsClosedUnderPrefixes : Type 0
FollowingIsClosedUnderPrefixes =
    (plan : Plan) (entries more : List Entry) → Follows plan (entries ++ more) → Follows plan entries

-- the next call of a thread may be made
abbrev pub FollowingGrows : Type 0
FollowingGrows =
    (plan : Plan) (entries : List Entry) (entry : Entry) → Follows plan entries
    → IsNext plan entries entry.thread entry.body → Follows plan (entries ++ entry ∷ [])
