-- Commits of allocations from caches with chunks that are known to be free.
use Rattle.std.proofs.Common.{◌≡◌, ℕ, ◌+◌, ◌<◌, Bool, true, false, cond, [], Option, Some, None, length, refl, sym, ap, ◌∙◌, subst, arith}
use Rattle.std.specs.Prelude.{is_some}
use Rattle.std.specs.Option.{option_and_then}
use Rattle.case_table.specs.declared.limits.TheConstants.{CLASS_COUNT}
use Rattle.case_table.specs.Sizes.{class_for}
use Rattle.script.specs.declared.operation.Op.{Op}
use Rattle.script.specs.declared.operation.Op.TheVariants.{Alloc, Zalloc, Free, CacheAlloc, CacheFree, Copy, Clear, Store, Link, Load, Reap}
use Rattle.script.specs.declared.tree.Header.{Header}
use Rattle.script.specs.Plan.{Call}
use Rattle.script.specs.Rules.{IsOp, IsSlot}
use Rattle.plain_heap.specs.declared.reply.Reply.{Reply}
use Rattle.plain_heap.specs.Calls.{due_call}
use Rattle.plain_heap.specs.Setting.{Setting, cache_def_in}
use Rattle.plain_heap.specs.State.{State}
use Rattle.plain_heap.proofs.SeparateLemmas.{history_is_separate}
use Rattle.heap_ledger.specs.Commits.{IsTidyReply}
use Rattle.heap_ledger.specs.Ledger.{Commits, Ledger, MayCommit, run_setting, run_state}
use Rattle.heap_memory.specs.declared.chunk.Chunk.{Chunk}
use Rattle.heap_slabs.specs.Chunks.{IsFreeChunk}
use Rattle.heap_slabs.specs.HeapSlabs.{HeapSlabs}
use Rattle.heap_slabs.specs.States.{ForEachTabled}
use Rattle.heap_accounts.specs.declared.chunk_request.ChunkRequest.{ChunkRequest}
use Rattle.heap_accounts.specs.declared.tables.Tables.{Tables}
use Rattle.heap_accounts.specs.Allocs.{CanHand, CanHandIn, HandsChunk, HasFreeNumber, NamesCache}
use Rattle.heap_accounts.specs.Accounts.{AreAccounts}
use Rattle.heap_accounts.specs.Kinds.{chunk_request, class_request, is_chunk_call}
use Rattle.heap_accounts.specs.Tables.{AreTablesOf, ForEachHistory}
use Rattle.heap_accounts.specs.Turns.{MakesWith, due_of}
use Rattle.heap_accounts.proofs.AccountsLemmas.{books_after, has_room, is_made, may_commit, of_run}
use Rattle.heap_accounts.proofs.ChunkLemmas.{AsksOfCache, asks_of_cache}

-- ---- what is asked

-- a cache that an operation names is one of the table's
pub names_cache : (header : Header) (slabs : HeapSlabs) (op : Op) → length slabs.caches ≡ CLASS_COUNT + length header.caches → IsOp header op → NamesCache slabs op
names_cache header slabs (CacheAlloc slot cache) count limits = omega (arith, count, limits.1.1)
names_cache header slabs (Alloc slot size) count limits = tt
names_cache header slabs (Zalloc slot size) count limits = tt
names_cache header slabs (Free slot size) count limits = tt
names_cache header slabs (CacheFree slot cache) count limits = tt
names_cache header slabs (Copy to from) count limits = tt
names_cache header slabs (Clear slot) count limits = tt
names_cache header slabs (Store slot offset stored) count limits = tt
names_cache header slabs (Link slot offset value) count limits = tt
names_cache header slabs (Load to slot offset) count limits = tt
names_cache header slabs Reap count limits = tt

none_of_class : (slot size : ℕ) (zeroed : Bool) (o : Option ℕ) → None ≡ class_request slot size zeroed o → is_some o ≡ false
none_of_class slot size zeroed None is = refl
none_of_class slot size zeroed (Some class) is = absurd (cc is)

-- where no chunk is asked for
pub none_asked : (setting : Setting) (op : Op) → None ≡ chunk_request setting op → is_chunk_call op ≡ false
none_asked setting (Alloc slot size) is = none_of_class slot size false (class_for size) is
none_asked setting (Zalloc slot size) is = none_of_class slot size true (class_for size) is
none_asked setting (CacheAlloc slot cache) is = absurd (cc is)
none_asked setting (Free slot size) is = refl
none_asked setting (CacheFree slot cache) is = refl
none_asked setting (Copy to from) is = refl
none_asked setting (Clear slot) is = refl
none_asked setting (Store slot offset stored) is = refl
none_asked setting (Link slot offset value) is = refl
none_asked setting (Load to slot offset) is = refl
none_asked setting Reap is = refl

slot_of_class : (slot size : ℕ) (zeroed : Bool) (o : Option ℕ) (request : ChunkRequest) → class_request slot size zeroed o ≡ Some request → slot ≡ request.slot
slot_of_class slot size zeroed None request is = absurd (cc is)
slot_of_class slot size zeroed (Some class) request is =
    let same : record { slot = slot; cache = class; size = size; zero = zeroed } ≡ request = cc in ap (λ (r : ChunkRequest). r.slot) same

-- the slot that gets the address is one
pub request_slot : (setting : Setting) (op : Op) (request : ChunkRequest) → chunk_request setting op ≡ Some request → IsOp setting.header op → IsSlot setting.header request.slot
request_slot setting (Alloc slot size) request is limits = subst (IsSlot setting.header) (slot_of_class slot size false (class_for size) request is) limits.0
request_slot setting (Zalloc slot size) request is limits = subst (IsSlot setting.header) (slot_of_class slot size true (class_for size) request is) limits.0
request_slot setting (CacheAlloc slot cache) request is limits =
    let same : record { slot = slot; cache = cache; size = (cache_def_in setting cache).size; zero = false } ≡ request = cc in
    subst (IsSlot setting.header) (ap (λ (r : ChunkRequest). r.slot) same) limits.0
request_slot setting (Free slot size) request is limits = absurd (cc is)
request_slot setting (CacheFree slot cache) request is limits = absurd (cc is)
request_slot setting (Copy to from) request is limits = absurd (cc is)
request_slot setting (Clear slot) request is limits = absurd (cc is)
request_slot setting (Store slot offset stored) request is limits = absurd (cc is)
request_slot setting (Link slot offset value) request is limits = absurd (cc is)
request_slot setting (Load to slot offset) request is limits = absurd (cc is)
request_slot setting Reap request is limits = absurd (cc is)

-- ---- commits

module _ (ledger : Ledger) (tables : Tables) (is : AreAccounts ledger tables) (request : ChunkRequest) where
  -- what was asked, as the run's setting has it
  pub asked_of : (op shown : Op) → ForEachTabled (λ setting state. Some request ≡ chunk_request setting shown) tables.slabs → shown ≡ op → chunk_request (run_setting ledger) op ≡ Some request
  asked_of op shown told same = sym (told (run_setting ledger) (run_state ledger) is.legal.plan.header is.are.slabs ∙ ap (chunk_request (run_setting ledger)) same)

  -- and which chunk was found, as its state has it
  pub found_of : (chunk : Chunk) (shown wanted : ℕ) → ForEachHistory (HasFreeNumber request.cache shown chunk) tables → shown ≡ wanted
      → HasFreeNumber request.cache wanted chunk (run_setting ledger) (run_state ledger)
  found_of chunk shown wanted told same =
      subst (λ (n : ℕ). HasFreeNumber request.cache n chunk (run_setting ledger) (run_state ledger)) same (told (run_setting ledger) ledger.entries (of_run ledger tables is))

module _ (ledger : Ledger) (thread number : ℕ) (call : Call) (due : due_call ledger.plan ledger.entries thread number ≡ Some call) (tables : Tables) (is : AreAccounts ledger tables)
    (within : thread < ledger.plan.header.threads) (limits : IsOp ledger.plan.header call.op) (request : ChunkRequest) (asked : chunk_request (run_setting ledger) call.op ≡ Some request) where
  asks : AsksOfCache (run_setting ledger) (run_state ledger) thread call.op request
  asks = asks_of_cache (run_setting ledger) (run_state ledger) thread request is.legal.plan.header call.op limits asked

  can : (chunk : Chunk) → IsFreeChunk request.cache chunk (run_setting ledger) (run_state ledger) → CanHand request chunk (run_setting ledger) (run_state ledger)
  can chunk free = record {
    separate = history_is_separate (run_setting ledger) ledger.entries is.legal.plan.header is.legal.legal;
    is_cache = asks.is_cache;
    requested = asks.requested;
    free = free;
  }

  pub can_in : (chunk : Chunk) → IsFreeChunk request.cache chunk (run_setting ledger) (run_state ledger) → CanHandIn tables thread request chunk
  can_in chunk free = record {
    setting = run_setting ledger;
    state = run_state ledger;
    header = is.legal.plan.header;
    are = is.are;
    can = can chunk free;
    within = within;
    slot = request_slot (run_setting ledger) call.op request asked limits;
    room = has_room ledger thread number call due tables is;
  }

  due_kind : due_of is_chunk_call ledger thread number ≡ Some call
  due_kind = ap (option_and_then (λ (c : Call). cond (is_chunk_call c.op) (Some c) None)) due ∙ ap (λ (b : Bool). cond b (Some call) None) asks.kind

  module _ (wanted : ℕ) (chunk : Chunk) (free : HasFreeNumber request.cache wanted chunk (run_setting ledger) (run_state ledger)) (next : Tables) (answer : Reply) (done : HandsChunk tables next thread request chunk answer) where
    told : IsTidyReply (run_setting ledger) (run_state ledger) thread call.op answer
    told = asks.told answer (done.reply (run_setting ledger) (run_state ledger) is.legal.plan.header is.are (can chunk free.0))

    pub may_hand : MayCommit ledger thread [] answer
    may_hand = may_commit ledger thread number call due answer is.legal told

    pub stand_handed : (new : Ledger) → Commits ledger new thread [] answer → AreAccounts new next
    stand_handed new commits =
        books_after ledger thread number call due answer is.legal told new next (is_made ledger thread number call due new answer commits)
        (subst (λ (s : State). AreTablesOf (run_setting ledger) s next) (sym (asks.after answer)) (done.after (run_setting ledger) (run_state ledger) is.legal.plan.header is.are (can chunk free.0)))
        (omega (arith, is.room, done.room)) is.grown

    pub gives_handed : (new : Ledger) → Commits ledger new thread [] answer → MakesWith ledger new thread number wanted answer
    gives_handed new commits = record {
      call = call;
      due = due_kind;
      request = request;
      asked = asked;
      chunk = chunk;
      free = free;
      at = done.at;
      reply = told;
      made = is_made ledger thread number call due new answer commits;
    }
