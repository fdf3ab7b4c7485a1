-- Calls that ask a chunk of a cache.
use Rattle.std.proofs.Common.{◌≡◌, ℕ, zero, suc, ◌+◌, ◌<◌, Bool, true, false, cond, List, length, Option, Some, None, refl, sym, ap, ◌∙◌, subst, arith}
use Rattle.std.specs.Prelude.{is_some}
use Rattle.std.specs.Option.{option_and_then}
use Rattle.case_table.specs.Sizes.{class_for}
use Rattle.case_table.proofs.SizesLemmas.{class_for-zero, least_from_class}
use Rattle.script.specs.declared.operation.Op.{Op}
use Rattle.script.specs.declared.operation.Op.TheVariants.{Alloc, Zalloc, Free, CacheAlloc, CacheFree, Copy, Clear, Store, Link, Load, Reap}
use Rattle.script.specs.declared.tree.Header.{Header}
use Rattle.script.specs.Plan.{Call}
use Rattle.script.specs.Rules.{IsOp}
use Rattle.plain_heap.specs.declared.entry.Body.{Body}
use Rattle.plain_heap.specs.declared.reply.Reply.{Reply}
use Rattle.plain_heap.specs.Replies.{IsAllocReply, IsCacheReply, IsReply, IsSomeReply}
use Rattle.plain_heap.specs.Setting.{Setting, cache_def_in}
use Rattle.plain_heap.specs.State.{State}
use Rattle.heap_ledger.specs.Ledger.{IsLedger, Ledger}
use Rattle.heap_ledger.proofs.PlanLemmas.{next_keeps}
use Rattle.heap_accounts.specs.declared.chunk_request.ChunkRequest.{ChunkRequest}
use Rattle.heap_accounts.specs.Kinds.{chunk_request, class_request, is_chunk_call}
use Rattle.heap_accounts.specs.Laws.{at_rest, cache_asked}
use Rattle.heap_accounts.specs.Performed.{IsPerformed, IsPerformedChunk, IsPerformedRequest}
use Rattle.heap_accounts.specs.Places.{Places, places_by_call, places_by_chunk, places_by_request}
use Rattle.heap_accounts.specs.Turns.{due_of}
use Rattle.heap_accounts.proofs.AccountsLemmas.{due_is_next}
use Rattle.heap_core.specs.ChunkCalls.{IsChunkDue}

-- ---- operations

pub is_chunk : (op : Op) (cache : ℕ) → cache_asked op ≡ Some cache → is_chunk_call op ≡ true
is_chunk (Alloc slot size) cache asks = ap is_some asks
is_chunk (Zalloc slot size) cache asks = ap is_some asks
is_chunk (CacheAlloc slot its) cache asks = refl
is_chunk (Free slot size) cache asks = absurd (cc asks)
is_chunk (CacheFree slot its) cache asks = absurd (cc asks)
is_chunk (Copy to from) cache asks = absurd (cc asks)
is_chunk (Clear slot) cache asks = absurd (cc asks)
is_chunk (Store slot offset stored) cache asks = absurd (cc asks)
is_chunk (Link slot offset value) cache asks = absurd (cc asks)
is_chunk (Load to slot offset) cache asks = absurd (cc asks)
is_chunk Reap cache asks = absurd (cc asks)

some_one : {X : Type 0} (x y : X) → Some x ≡ Some y → x ≡ y
some_one x y e = cc

class_cache : (slot size : ℕ) (zeroed : Bool) (o : Option ℕ) (request : ChunkRequest) (cache : ℕ) → class_request slot size zeroed o ≡ Some request → o ≡ Some cache → request.cache ≡ cache
class_cache slot size zeroed None request cache is asks = absurd (cc asks)
class_cache slot size zeroed (Some class) request cache is asks =
    ap (λ (r : ChunkRequest). r.cache) (sym (some_one (record { slot = slot; cache = class; size = size; zero = zeroed }) request is)) ∙ some_one class cache asks

-- what a commit asks for is of that cache
pub request_cache : (setting : Setting) (op : Op) (request : ChunkRequest) (cache : ℕ) → chunk_request setting op ≡ Some request → cache_asked op ≡ Some cache → request.cache ≡ cache
request_cache setting (Alloc slot size) request cache is asks = class_cache slot size false (class_for size) request cache is asks
request_cache setting (Zalloc slot size) request cache is asks = class_cache slot size true (class_for size) request cache is asks
request_cache setting (CacheAlloc slot its) request cache is asks =
    ap (λ (r : ChunkRequest). r.cache) (sym (some_one (record { slot = slot; cache = its; size = (cache_def_in setting its).size; zero = false }) request is)) ∙ some_one its cache asks
request_cache setting (Free slot size) request cache is asks = absurd (cc asks)
request_cache setting (CacheFree slot its) request cache is asks = absurd (cc asks)
request_cache setting (Copy to from) request cache is asks = absurd (cc asks)
request_cache setting (Clear slot) request cache is asks = absurd (cc asks)
request_cache setting (Store slot offset stored) request cache is asks = absurd (cc asks)
request_cache setting (Link slot offset value) request cache is asks = absurd (cc asks)
request_cache setting (Load to slot offset) request cache is asks = absurd (cc asks)
request_cache setting Reap request cache is asks = absurd (cc asks)

class_known : (header : Header) (size cache : ℕ) → class_for size ≡ Some cache → cache < 32 + length header.caches
class_known header size cache asks = let least = least_from_class size cache asks in omega (arith, least.is_class)

-- it is one of the caches
pub cache_known : (header : Header) (op : Op) (cache : ℕ) → IsOp header op → cache_asked op ≡ Some cache → cache < 32 + length header.caches
cache_known header (Alloc slot size) cache limits asks = class_known header size cache asks
cache_known header (Zalloc slot size) cache limits asks = class_known header size cache asks
cache_known header (CacheAlloc slot its) cache limits asks = subst (λ c. c < 32 + length header.caches) (some_one its cache asks) limits.1.1
cache_known header (Free slot size) cache limits asks = absurd (cc asks)
cache_known header (CacheFree slot its) cache limits asks = absurd (cc asks)
cache_known header (Copy to from) cache limits asks = absurd (cc asks)
cache_known header (Clear slot) cache limits asks = absurd (cc asks)
cache_known header (Store slot offset stored) cache limits asks = absurd (cc asks)
cache_known header (Link slot offset value) cache limits asks = absurd (cc asks)
cache_known header (Load to slot offset) cache limits asks = absurd (cc asks)
cache_known header Reap cache limits asks = absurd (cc asks)

-- ---- answers

none_of_zero : (class : ℕ) → None ≡ Some class → ⊥
none_of_zero class is = absurd (cc is)

sized_reply : (setting : Setting) (state : State) (size cache : ℕ) (answer : Reply) → class_for size ≡ Some cache → IsAllocReply setting state size answer → IsCacheReply setting state cache answer
sized_reply setting state zero cache answer asks told = absurd (none_of_zero cache (sym (class_for-zero 0 refl) ∙ asks))
sized_reply setting state (suc n) cache answer asks told = subst (λ (o : Option ℕ). IsSomeReply setting state (suc n) o answer) asks told

-- an answer that is allowed is one of the cache
pub cache_reply : (setting : Setting) (state : State) (thread : ℕ) (op : Op) (cache : ℕ) (answer : Reply) → cache_asked op ≡ Some cache → IsReply setting state thread op answer → IsCacheReply setting state cache answer
cache_reply setting state thread (Alloc slot size) cache answer asks told = sized_reply setting state size cache answer asks told
cache_reply setting state thread (Zalloc slot size) cache answer asks told = sized_reply setting state size cache answer asks told
cache_reply setting state thread (CacheAlloc slot its) cache answer asks told = subst (λ c. IsCacheReply setting state c answer) (some_one its cache asks) told
cache_reply setting state thread (Free slot size) cache answer asks told = absurd (cc asks)
cache_reply setting state thread (CacheFree slot its) cache answer asks told = absurd (cc asks)
cache_reply setting state thread (Copy to from) cache answer asks told = absurd (cc asks)
cache_reply setting state thread (Clear slot) cache answer asks told = absurd (cc asks)
cache_reply setting state thread (Store slot offset stored) cache answer asks told = absurd (cc asks)
cache_reply setting state thread (Link slot offset value) cache answer asks told = absurd (cc asks)
cache_reply setting state thread (Load to slot offset) cache answer asks told = absurd (cc asks)
cache_reply setting state thread Reap cache answer asks told = absurd (cc asks)

-- ---- what is performed

module _ (setting : Setting) (state : State) (places : Places) (thread cache : ℕ) (answer : Reply) where
  by_request : (op : Op) (asked : Option ℕ) (inner : List Body) → asked ≡ Some cache → IsPerformedChunk setting state places thread cache inner answer → IsPerformedRequest setting state places thread op asked inner answer
  by_request op asked inner asks performed = subst (λ (o : Option ℕ). IsPerformedRequest setting state places thread op o inner answer) (sym asks) performed

  pub is_performed : (op : Op) (inner : List Body) → cache_asked op ≡ Some cache → IsPerformedChunk setting state places thread cache inner answer → IsPerformed setting state places thread op inner answer
  is_performed (Alloc slot size) inner asks performed = by_request (Alloc slot size) (class_for size) inner asks performed
  is_performed (Zalloc slot size) inner asks performed = by_request (Zalloc slot size) (class_for size) inner asks performed
  is_performed (CacheAlloc slot its) inner asks performed = subst (λ c. IsPerformedChunk setting state places thread c inner answer) (sym (some_one its cache asks)) performed
  is_performed (Free slot size) inner asks performed = absurd (cc asks)
  is_performed (CacheFree slot its) inner asks performed = absurd (cc asks)
  is_performed (Copy to from) inner asks performed = absurd (cc asks)
  is_performed (Clear slot) inner asks performed = absurd (cc asks)
  is_performed (Store slot offset stored) inner asks performed = absurd (cc asks)
  is_performed (Link slot offset value) inner asks performed = absurd (cc asks)
  is_performed (Load to slot offset) inner asks performed = absurd (cc asks)
  is_performed Reap inner asks performed = absurd (cc asks)

  -- the places that it leaves, where no slab is made
  pub places_left : (op : Op) → cache_asked op ≡ Some cache → places_by_call setting (at_rest state places) thread op answer ≡ places_by_chunk setting places None thread cache
  places_left (Alloc slot size) asks = ap (λ (o : Option ℕ). places_by_request setting places None thread o) asks
  places_left (Zalloc slot size) asks = ap (λ (o : Option ℕ). places_by_request setting places None thread o) asks
  places_left (CacheAlloc slot its) asks = ap (λ c. places_by_chunk setting places None thread c) (some_one its cache asks)
  places_left (Free slot size) asks = absurd (cc asks)
  places_left (CacheFree slot its) asks = absurd (cc asks)
  places_left (Copy to from) asks = absurd (cc asks)
  places_left (Clear slot) asks = absurd (cc asks)
  places_left (Store slot offset stored) asks = absurd (cc asks)
  places_left (Link slot offset value) asks = absurd (cc asks)
  places_left (Load to slot offset) asks = absurd (cc asks)
  places_left Reap asks = absurd (cc asks)

-- ---- the call that is due

module _ (ledger : Ledger) (thread number cache : ℕ) (asked : IsChunkDue ledger thread number cache) where
  due_is : due_of is_chunk_call ledger thread number ≡ Some asked.call
  due_is =
      ap (option_and_then (λ (c : Call). cond (is_chunk_call c.op) (Some c) None)) asked.due
      ∙ ap (λ (b : Bool). cond b (Some asked.call) None) (is_chunk asked.call.op cache asked.asks)

  none_due : None ≡ Some asked.call → ⊥
  none_due e = cc e

  -- so it does not wait
  pub not_behind : due_of is_chunk_call ledger thread number ≡ None → ⊥
  not_behind none = none_due (sym none ∙ due_is)

  pub call_is : (call : Call) → due_of is_chunk_call ledger thread number ≡ Some call → call ≡ asked.call
  call_is call due = some_one call asked.call (sym due ∙ due_is)

  -- what a commit asks for
  pub asks_cache : (call : Call) (request : ChunkRequest) (setting : Setting) → due_of is_chunk_call ledger thread number ≡ Some call → chunk_request setting call.op ≡ Some request → request.cache ≡ cache
  asks_cache call request setting due is =
      let same = call_is call due in
      request_cache setting asked.call.op request cache (ap (λ (c : Call). chunk_request setting c.op) (sym same) ∙ is) asked.asks

  -- one cache is asked
  pub cache_is : (other : ℕ) → IsChunkDue ledger thread number other → other ≡ cache
  cache_is other its =
      let same = some_one its.call asked.call (sym its.due ∙ asked.due) in
      some_one other cache (sym its.asks ∙ ap (λ (c : Call). cache_asked c.op) same ∙ asked.asks)

  pub is_known : IsLedger ledger → cache < 32 + length ledger.plan.header.caches
  is_known legal =
      let turn = next_keeps ledger.plan ledger.entries thread asked.call legal.plan (due_is_next ledger thread number asked.call asked.due) in
      cache_known ledger.plan.header asked.call.op cache turn.op asked.asks
