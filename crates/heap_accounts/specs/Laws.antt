-- What follows of the definitions of this crate: the statements, which laws prove.
use Rattle.std.specs.Prelude.{◌≡◌, ℕ, ◌+◌, ◌^◌, ◌<◌, ◌≤◌, Bool, true, List, [], ◌∷◌, ◌++◌, Option, Some, None, Contains, map}
use Rattle.case_table.specs.Sizes.{class_for}
use Rattle.script.specs.declared.operation.Op.{Op}
use Rattle.script.specs.declared.operation.Op.TheVariants.{Alloc, Zalloc, Free, CacheAlloc, CacheFree, Copy, Clear, Store, Link, Load, Reap}
use Rattle.script.specs.Plan.{Call, Plan}
use Rattle.script.specs.Rules.{IsHeader, IsPlan}
use Rattle.plain_heap.specs.declared.entry.Body.{Body}
use Rattle.plain_heap.specs.declared.entry.Entry.{Entry}
use Rattle.plain_heap.specs.declared.reply.Reply.{Reply}
use Rattle.plain_heap.specs.Answers.{Answers, AreTidy, setting_for}
use Rattle.plain_heap.specs.Calls.{turns_made}
use Rattle.plain_heap.specs.Legal.{IsLegal}
use Rattle.plain_heap.specs.Setting.{Setting, geometry_in}
use Rattle.plain_heap.specs.State.{HeapSlab, State, chunk_start, new_slab, next_chunk, state_of}
use Rattle.heap_ledger.specs.declared.slab_at.SlabAt.{SlabAt}
use Rattle.heap_ledger.specs.Ledger.{commit_entries, grown, shrunk}
use Rattle.heap_accounts.specs.declared.asked.Asked.{Asked}
use Rattle.heap_accounts.specs.declared.asked.Asked.TheVariants as asked
use Rattle.heap_accounts.specs.Asked.{asked_of}
use Rattle.heap_accounts.specs.FreeChunks.{ArePlacesOf}
use Rattle.heap_accounts.specs.Kinds.{is_chunk_call, is_free, is_large, is_plain_call, is_reap_call}
use Rattle.heap_accounts.specs.Performed.{IsPerformed}
use Rattle.heap_accounts.specs.Placed.{IsPlaced}
use Rattle.heap_accounts.specs.Places.{Places, Placing, address_of, places_by_call, places_by_slab, placing_of, places_of, reaped}

-- ---- kinds of calls

-- the cache of which an operation asks a chunk, if it asks one
abbrev pub cache_asked : Op → Option ℕ
cache_asked (Alloc slot size) = class_for size
cache_asked (Zalloc slot size) = class_for size
cache_asked (CacheAlloc slot cache) = Some cache
cache_asked (Free slot size) = None
cache_asked (CacheFree slot cache) = None
cache_asked (Copy to from) = None
cache_asked (Clear slot) = None
cache_asked (Store slot offset stored) = None
cache_asked (Link slot offset value) = None
cache_asked (Load to slot offset) = None
cache_asked Reap = None

-- an operation is of the kind that the commit makes which serves what is asked
abbrev pub IsOfKindAsked : Op → Asked → Type 0
IsOfKindAsked op asked.Plain = is_plain_call op ≡ true
IsOfKindAsked op asked.Large = is_large op ≡ true
IsOfKindAsked op (asked.Chunk cache) = (is_chunk_call op ≡ true) × (cache_asked op ≡ Some cache)
IsOfKindAsked op asked.Free = is_free op ≡ true
IsOfKindAsked op asked.Reap = is_reap_call op ≡ true

-- a call is of the kind that it asks for
abbrev pub CallsAreOfTheKindAsked : Type 0
CallsAreOfTheKindAsked = (op : Op) → IsOfKindAsked op (asked_of op)

-- ---- one commit more

-- what is left between two commits: no chunk of a new slab is in hand
abbrev pub at_rest : State → Places → Placing
at_rest state places = record { state = state; places = places; made = None }

-- a legal history leaves no chunk of a new slab in hand
abbrev pub LegalHistoriesAreAtRest : Type 0
LegalHistoriesAreAtRest =
    (setting : Setting) (entries : List Entry) → IsLegal setting entries
    → placing_of setting entries ≡ at_rest (state_of setting entries) (places_of setting entries)

-- the places after a call and its answer are one step from those before
abbrev pub AnswersChangePlaces : Type 0
AnswersChangePlaces =
    (setting : Setting) (entries : List Entry) (number thread : ℕ) (call : Call) (answer : Reply)
    → IsLegal setting entries
    → places_of setting (entries ++ commit_entries number thread [] call answer)
    ≡ places_by_call setting (at_rest (state_of setting entries) (places_of setting entries)) thread call.op answer

-- where a slab was made for it, they are those before with the slab, whose first round is in hand
abbrev pub GrowsChangePlaces : Type 0
GrowsChangePlaces =
    (setting : Setting) (entries : List Entry) (number thread : ℕ) (slab : SlabAt) (call : Call) (answer : Reply)
    → IsLegal setting entries → cache_asked call.op ≡ Some slab.cache
    → places_of setting (entries ++ commit_entries number thread (grown slab ∷ []) call answer)
    ≡ places_by_slab setting (places_of setting entries)
    (new_slab setting (state_of setting entries) slab.cache slab.base)

-- after a reap, whatever slabs it gave back, each cache's magazines are empty, and its complete slabs are gone
abbrev pub ReapsChangePlaces : Type 0
ReapsChangePlaces =
    (setting : Setting) (entries : List Entry) (number thread : ℕ) (slabs : List SlabAt) (call : Call) (answer : Reply)
    → IsLegal setting entries → call.op ≡ Reap
    → places_of setting (entries ++ commit_entries number thread (shrunk slabs) call answer)
    ≡ map reaped (places_of setting entries)

-- a placed history stays placed by what a call adds by the magazine rules
abbrev pub PlacedHistoriesGrow : Type 0
PlacedHistoriesGrow =
    (setting : Setting) (entries : List Entry) (number thread : ℕ) (inner : List Body) (call : Call) (answer : Reply)
    → IsLegal setting entries → IsPlaced setting entries
    → IsPerformed setting (state_of setting entries) (places_of setting entries) thread call.op inner answer
    → IsPlaced setting (entries ++ commit_entries number thread inner call answer)

-- ---- what the rules decide

-- what a call adds is decided by the state and the places before it
abbrev pub PerformedCallsAreOne : Type 0
PerformedCallsAreOne =
    (setting : Setting) (state : State) (places : Places) (thread : ℕ) (op : Op) (one other : List Body)
    (answer twin : Reply)
    → IsPerformed setting state places thread op one answer → IsPerformed setting state places thread op other twin
    → (one ≡ other) × (answer ≡ twin)

-- legal, tidy and placed
pub record IsDecided (setting : Setting) (entries : List Entry) : Type 0 where
  pub legal : IsLegal setting entries
  pub tidy : AreTidy setting entries
  pub placed : IsPlaced setting entries

-- a legal, tidy and placed history is decided by its calls in their order
abbrev pub PlacedHistoriesAreOne : Type 0
PlacedHistoriesAreOne =
    (setting : Setting) (one other : List Entry) → IsHeader setting.header
    → IsDecided setting one → IsDecided setting other → turns_made one ≡ turns_made other → one ≡ other

-- one that answers a plan of one thread is decided by the plan
abbrev pub PlansOfOneThreadDecide : Type 0
PlansOfOneThreadDecide =
    (guards : Bool) (plan : Plan) (one other : List Entry) → IsPlan plan → plan.header.threads ≡ 1
    → Answers guards plan one → Answers guards plan other
    → IsPlaced (setting_for guards plan) one → IsPlaced (setting_for guards plan) other → one ≡ other

-- ---- chunks by number

-- a chunk of a slab that stands after a legal history is the one of its number, and begins where it does
abbrev pub NumbersTellAddresses : Type 0
NumbersTellAddresses =
    (setting : Setting) (entries : List Entry) (slab : HeapSlab) (index : ℕ) → IsHeader setting.header
    → IsLegal setting entries → Contains (state_of setting entries).slabs slab
    → index < (geometry_in setting slab.cache).rounds
    → address_of setting (state_of setting entries) (slab.first + index) ≡ Some (chunk_start setting slab index)

-- ---- what the places hold

-- the places of a legal, tidy and placed history, in which no more chunks were made than their numbers reach, are sound
-- stocks of the slabs that stand, and hold exactly the rounds of the free chunks
abbrev pub PlacesHoldTheFreeChunks : Type 0
PlacesHoldTheFreeChunks =
    (setting : Setting) (entries : List Entry) → IsHeader setting.header → IsDecided setting entries
    → next_chunk setting (state_of setting entries) ≤ 2 ^ 32
    → ArePlacesOf setting (state_of setting entries) (places_of setting entries)
