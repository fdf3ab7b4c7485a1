-- Tables stay those of a history by a commit.
use Rattle.std.proofs.Common.{◌≡◌, ℕ, ◌+◌, ◌<◌, ◌≤◌, ◌==◌, Bool, true, false, cond, eqb, List, [], ◌∷◌, length, Option, Some, None, refl, sym, ap, ◌∙◌, subst, arith, length-append}
use Rattle.std.specs.Prelude.{is_some}
use Rattle.std.specs.List.{list_any}
use Rattle.std.specs.Option.{IfSome, option_and_then}
use Rattle.std.proofs.lemmas.Bool.{eqb-true, false≢true}
use Rattle.script.specs.declared.operation.Op.{Op}
use Rattle.script.specs.declared.operation.Op.TheVariants.{Alloc, Zalloc, Free, CacheAlloc, CacheFree, Copy, Clear, Store, Link, Load, Reap}
use Rattle.script.specs.declared.tree.Header.{Header}
use Rattle.script.specs.Plan.{Call, call_count}
use Rattle.script.specs.Rules.{IsHeader, IsOp, IsSlot}
use Rattle.plain_heap.specs.declared.entry.Body.TheVariants as body
use Rattle.plain_heap.specs.declared.reply.Reply.{Reply}
use Rattle.plain_heap.specs.declared.reply.Reply.TheVariants as reply
use Rattle.plain_heap.specs.Calls.{Follows, due_call, next_call, number_of_calls, turns_made}
use Rattle.plain_heap.specs.Live.{HeldByAddress, TellsLive}
use Rattle.plain_heap.specs.Replies.{IsAllocReply, IsReply}
use Rattle.plain_heap.specs.Setting.{Setting}
use Rattle.plain_heap.specs.State.{LiveBuffer, State, after_alloc, after_call, after_link, after_store, after_word, held_at, request_of, word_of_slot}
use Rattle.plain_heap.proofs.EntryLemmas.{follows_grow}
use Rattle.heap_ledger.specs.Commits.{IsTidyReply}
use Rattle.heap_ledger.specs.Ledger.{Commits, IsLedger, KeepsLegal, Ledger, MayCommit, after_commit, entry, run_setting, run_state}
use Rattle.heap_ledger.proofs.CommitLemmas.{one_call}
use Rattle.heap_ledger.proofs.MayCommitLemmas.{answers_may, answers_step}
use Rattle.heap_ledger.proofs.PlanLemmas.{made_few}
use Rattle.heap_memory.specs.Laws.{AreSlotsMapped}
use Rattle.heap_memory.specs.Memory.{IsMemoryOf, Memory}
use Rattle.heap_memory.specs.Pages.{HasSlot}
use Rattle.heap_slabs.specs.Laws.{TablesLookAtSlabs}
use Rattle.heap_slabs.specs.HeapSlabs.{IsTableOf, HeapSlabs}
use Rattle.heap_accounts.specs.declared.tables.Tables.{Tables}
use Rattle.heap_accounts.specs.Accounts.{AreAccounts}
use Rattle.heap_accounts.specs.Kinds.{is_plain_call}
use Rattle.heap_accounts.specs.Slots.{HasSlotsOf, StoresSome}
use Rattle.heap_accounts.specs.Tables.{AreOfHistory, AreTablesOf, IsKnown, Performs}
use Rattle.heap_accounts.specs.Turns.{Makes}
use Rattle.heap_accounts.proofs.NumberLemmas.{call_same}

-- ---- slots

-- the slots of an operation that keeps its limits are mapped
pub slots_of : (memory : Memory) (setting : Setting) (state : State) (thread : ℕ) (op : Op) → AreSlotsMapped → IsHeader setting.header → IsMemoryOf setting state memory
    → thread < setting.header.threads → IsOp setting.header op → HasSlotsOf memory thread op
slots_of memory setting state thread op mapped header is within its = by op its
  where
    one : (slot : ℕ) → IsSlot setting.header slot → HasSlot memory thread slot
    one slot there = mapped memory thread slot setting state header is within there

    by : (op : Op) → IsOp setting.header op → HasSlotsOf memory thread op
    by (Alloc slot size) its = one slot its.0
    by (Zalloc slot size) its = one slot its.0
    by (Free slot size) its = one slot its.0
    by (CacheAlloc slot cache) its = one slot its.0
    by (CacheFree slot cache) its = one slot its.0
    by (Copy to from) its = (one to its.0, one from its.1)
    by (Clear slot) its = one slot its
    by (Store slot offset stored) its = one slot its.0
    by (Link slot offset value) its = (one slot its.0, one value its.2)
    by (Load to slot offset) its = (one to its.0, one slot its.1)
    by Reap its = tt

-- a store that keeps its limits writes some bytes
pub stores_of : (header : Header) (op : Op) → IsOp header op → StoresSome op
stores_of header (Alloc slot size) its = tt
stores_of header (Zalloc slot size) its = tt
stores_of header (Free slot size) its = tt
stores_of header (CacheAlloc slot cache) its = tt
stores_of header (CacheFree slot cache) its = tt
stores_of header (Copy to from) its = tt
stores_of header (Clear slot) its = tt
stores_of header (Store slot offset stored) its = omega (arith, its.2.0)
stores_of header (Link slot offset value) its = tt
stores_of header (Load to slot offset) its = tt
stores_of header Reap its = tt

-- ---- the call that is due

module _ (ledger : Ledger) (thread number : ℕ) (call : Call) (due : due_call ledger.plan ledger.entries thread number ≡ Some call) where
  pub due_is_next : next_call ledger.plan ledger.entries thread ≡ Some call
  due_is_next = go (eqb (number_of_calls thread (turns_made ledger.entries)) number) due
    where
      go : (b : Bool) → cond b (next_call ledger.plan ledger.entries thread) None ≡ Some call → next_call ledger.plan ledger.entries thread ≡ Some call
      go true h = h
      go false h = absurd (cc h)

  -- what was committed
  pub is_made : (new : Ledger) (answer : Reply) → Commits ledger new thread [] answer → new ≡ after_commit ledger thread [] call answer
  is_made new answer commits = subst (λ (o : Option Call). IfSome o (λ c. new ≡ after_commit ledger thread [] c answer)) due_is_next commits

  follows_on : (answer : Reply) → IsLedger ledger → Follows ledger.plan (after_commit ledger thread [] call answer).entries
  follows_on answer is =
      follows_grow ledger.plan ledger.entries (entry (length ledger.entries + length {A = Unit {0}} []) thread (body.Call call.op call.frames answer)) is.follows due_is_next

  -- fewer calls were made than the plan has
  pub is_left : IsLedger ledger → length (turns_made ledger.entries) + 1 ≤ call_count ledger.plan
  is_left is =
      let count = made_few ledger.plan (after_commit ledger thread [] call reply.Ok).entries is.plan (follows_on reply.Ok is) in
      let more = ap length (one_call ledger thread [] call reply.Ok tt) in
      omega (arith, count, more, length-append (turns_made ledger.entries) (record { thread = thread; call = call } ∷ []))

  module _ (answer : Reply) (is : IsLedger ledger) (told : IsTidyReply (run_setting ledger) (run_state ledger) thread call.op answer) where
    pub may_commit : MayCommit ledger thread [] answer
    may_commit = answers_may ledger thread call answer is due_is_next told

    keeps : KeepsLegal ledger thread [] answer call
    keeps = subst (λ (o : Option Call). IfSome o (KeepsLegal ledger thread [] answer)) due_is_next may_commit

    is_ledger : IsLedger (after_commit ledger thread [] call answer)
    is_ledger = record { plan = is.plan; legal = keeps.legal; follows = follows_on answer is; tidy = keeps.tidy }

    -- the tables of the state behind the call are those of the longer history
    pub books_after : (new : Ledger) (tables : Tables) → new ≡ after_commit ledger thread [] call answer
        → AreTablesOf (run_setting ledger) (after_call (run_setting ledger) (run_state ledger) thread call.op answer) tables
        → call_count ledger.plan ≤ length (turns_made ledger.entries) + 1 + tables.live.spare → length (run_state ledger).grown ≤ length (turns_made ledger.entries) → AreAccounts new tables
    books_after new tables made are room few = subst (λ (l : Ledger). AreAccounts l tables) (sym made) (record {
      legal = is_ledger;
      are = subst (λ (s : State). AreTablesOf (run_setting ledger) s tables) (sym (answers_step ledger thread call answer)) are;
      room = omega (arith, room, ap length (one_call ledger thread [] call answer tt), length-append (turns_made ledger.entries) (record { thread = thread; call = call } ∷ []));
      grown = omega (
        arith,
        few,
        ap length (ap (λ (s : State). s.grown) (answers_step ledger thread call answer) ∙ (call_same (run_setting ledger) (run_state ledger) thread call.op answer).grown),
        ap length (one_call ledger thread [] call answer tt),
        length-append (turns_made ledger.entries) (record { thread = thread; call = call } ∷ []),
      );
    })

    -- what such a commit gives
    pub makes : (kind : Op → Bool) (new : Ledger) → kind call.op ≡ true → new ≡ after_commit ledger thread [] call answer → Makes kind ledger new thread number answer
    makes kind new its made = record {
      call = call;
      due = ap (option_and_then (λ (c : Call). cond (kind c.op) (Some c) None)) due ∙ ap (λ (b : Bool). cond b (Some call) None) its;
      reply = told;
      made = made;
    }

-- ---- commits by the tables

-- the tables are those of the run's history
pub of_run : (ledger : Ledger) (tables : Tables) → AreAccounts ledger tables → AreOfHistory (run_setting ledger) ledger.entries tables
of_run ledger tables is = record { header = is.legal.plan.header; legal = is.legal.legal; are = is.are }

module _ (ledger : Ledger) (thread number : ℕ) (call : Call) (due : due_call ledger.plan ledger.entries thread number ≡ Some call) (tables : Tables) (is : AreAccounts ledger tables) where
  -- there is room for a buffer more
  pub has_room : 0 < tables.live.spare
  has_room = let left = is_left ledger thread number call due is.legal in omega (arith, left, is.room)

  -- a call may be made of the tables
  pub is_known : (op : Op) → op ≡ call.op → thread < ledger.plan.header.threads → IsOp ledger.plan.header call.op → IsKnown tables thread op
  is_known op same within limits = record {
    setting = run_setting ledger;
    entries = ledger.entries;
    its = of_run ledger tables is;
    within = within;
    limits = subst (IsOp ledger.plan.header) (sym same) limits;
    room = has_room;
  }

  module _ (answer : Reply) (next : Tables) (done : Performs tables next thread call.op answer) where
    pub told : IsTidyReply (run_setting ledger) (run_state ledger) thread call.op answer
    told = done.reply (run_setting ledger) ledger.entries (of_run ledger tables is)

    pub may : MayCommit ledger thread [] answer
    may = may_commit ledger thread number call due answer is.legal told

    pub stand : (new : Ledger) → Commits ledger new thread [] answer → AreAccounts new next
    stand new commits =
        books_after ledger thread number call due answer is.legal told new next (is_made ledger thread number call due new answer commits)
        (done.after (run_setting ledger) ledger.entries (of_run ledger tables is)) (omega (arith, is.room, done.room)) is.grown

    pub gives : (kind : Op → Bool) (new : Ledger) → kind call.op ≡ true → Commits ledger new thread [] answer → Makes kind ledger new thread number answer
    gives kind new its commits =
        makes ledger thread number call due answer is.legal told kind new its (is_made ledger thread number call due new answer commits)

-- ---- live buffers

-- the live buffers, the addresses that were handed out and the slabs are the same
record KeepsLive (old new : State) : Type 0 where
  live : new.live ≡ old.live
  given : new.given ≡ old.given
  slabs : new.slabs ≡ old.slabs
  grown : new.grown ≡ old.grown

module _ (setting : Setting) (state : State) (thread : ℕ) where
  nothing : (slot size : ℕ) (zero : Bool) (answer : Reply) → answer ≡ reply.Null → KeepsLive state (after_alloc setting state thread slot (request_of size) zero answer)
  nothing slot size zero answer is = subst (λ (a : Reply). KeepsLive state (after_alloc setting state thread slot (request_of size) zero a)) (sym is) (record { live = refl; given = refl; slabs = refl; grown = refl })

  stored : (at : ℕ) (bytes : List ℕ) (answer : Reply) → KeepsLive state (after_store state at bytes answer)
  stored at bytes reply.Ok = record { live = refl; given = refl; slabs = refl; grown = refl }
  stored at bytes reply.Null = record { live = refl; given = refl; slabs = refl; grown = refl }
  stored at bytes reply.NoSpace = record { live = refl; given = refl; slabs = refl; grown = refl }
  stored at bytes (reply.At address report) = record { live = refl; given = refl; slabs = refl; grown = refl }
  stored at bytes reply.Dup = record { live = refl; given = refl; slabs = refl; grown = refl }
  stored at bytes reply.BadAddr = record { live = refl; given = refl; slabs = refl; grown = refl }
  stored at bytes reply.BadCache = record { live = refl; given = refl; slabs = refl; grown = refl }
  stored at bytes reply.BadSize = record { live = refl; given = refl; slabs = refl; grown = refl }
  stored at bytes reply.Redzone = record { live = refl; given = refl; slabs = refl; grown = refl }
  stored at bytes reply.Fault = record { live = refl; given = refl; slabs = refl; grown = refl }
  stored at bytes (reply.Word word) = record { live = refl; given = refl; slabs = refl; grown = refl }

  linked : (at word : ℕ) (answer : Reply) → KeepsLive state (after_link state at word answer)
  linked at word reply.Ok = record { live = refl; given = refl; slabs = refl; grown = refl }
  linked at word reply.Null = record { live = refl; given = refl; slabs = refl; grown = refl }
  linked at word reply.NoSpace = record { live = refl; given = refl; slabs = refl; grown = refl }
  linked at word (reply.At address report) = record { live = refl; given = refl; slabs = refl; grown = refl }
  linked at word reply.Dup = record { live = refl; given = refl; slabs = refl; grown = refl }
  linked at word reply.BadAddr = record { live = refl; given = refl; slabs = refl; grown = refl }
  linked at word reply.BadCache = record { live = refl; given = refl; slabs = refl; grown = refl }
  linked at word reply.BadSize = record { live = refl; given = refl; slabs = refl; grown = refl }
  linked at word reply.Redzone = record { live = refl; given = refl; slabs = refl; grown = refl }
  linked at word reply.Fault = record { live = refl; given = refl; slabs = refl; grown = refl }
  linked at word (reply.Word loaded) = record { live = refl; given = refl; slabs = refl; grown = refl }

  loaded : (slot : ℕ) (answer : Reply) → KeepsLive state (after_word state thread slot answer)
  loaded slot reply.Ok = record { live = refl; given = refl; slabs = refl; grown = refl }
  loaded slot reply.Null = record { live = refl; given = refl; slabs = refl; grown = refl }
  loaded slot reply.NoSpace = record { live = refl; given = refl; slabs = refl; grown = refl }
  loaded slot (reply.At address report) = record { live = refl; given = refl; slabs = refl; grown = refl }
  loaded slot reply.Dup = record { live = refl; given = refl; slabs = refl; grown = refl }
  loaded slot reply.BadAddr = record { live = refl; given = refl; slabs = refl; grown = refl }
  loaded slot reply.BadCache = record { live = refl; given = refl; slabs = refl; grown = refl }
  loaded slot reply.BadSize = record { live = refl; given = refl; slabs = refl; grown = refl }
  loaded slot reply.Redzone = record { live = refl; given = refl; slabs = refl; grown = refl }
  loaded slot reply.Fault = record { live = refl; given = refl; slabs = refl; grown = refl }
  loaded slot (reply.Word word) = record { live = refl; given = refl; slabs = refl; grown = refl }

  of_nothing : (size : ℕ) (answer : Reply) → (size == 0) ≡ true → IsAllocReply setting state size answer → answer ≡ reply.Null
  of_nothing size answer none allowed = subst (λ (n : ℕ). IsAllocReply setting state n answer) (eqb-true size 0 none) allowed

  plain_keeps : (op : Op) (answer : Reply) → is_plain_call op ≡ true → IsReply setting state thread op answer → KeepsLive state (after_call setting state thread op answer)
  plain_keeps (Alloc slot size) answer kind allowed = nothing slot size false answer (of_nothing size answer kind allowed)
  plain_keeps (Zalloc slot size) answer kind allowed = nothing slot size true answer (of_nothing size answer kind allowed)
  plain_keeps (Free slot size) answer kind allowed = absurd (false≢true kind)
  plain_keeps (CacheAlloc slot cache) answer kind allowed = absurd (false≢true kind)
  plain_keeps (CacheFree slot cache) answer kind allowed = absurd (false≢true kind)
  plain_keeps (Copy to from) answer kind allowed = record { live = refl; given = refl; slabs = refl; grown = refl }
  plain_keeps (Clear slot) answer kind allowed = record { live = refl; given = refl; slabs = refl; grown = refl }
  plain_keeps (Store slot offset bytes) answer kind allowed = stored (word_of_slot state thread slot + offset) bytes answer
  plain_keeps (Link slot offset value) answer kind allowed = linked (word_of_slot state thread slot + offset) (word_of_slot state thread value) answer
  plain_keeps (Load to slot offset) answer kind allowed = loaded to answer
  plain_keeps Reap answer kind allowed = absurd (false≢true kind)

  -- a call that hands nothing out and gives nothing back leaves the book of live buffers as it was
  pub plain_keeps_live : (buffers : HeldByAddress) (op : Op) (answer : Reply) → is_plain_call op ≡ true → IsTidyReply setting state thread op answer → TellsLive buffers state
      → TellsLive buffers (after_call setting state thread op answer)
  plain_keeps_live buffers op answer kind allowed is =
      let same = plain_keeps op answer kind allowed.reply in
      record {
        live = λ at. is.live at ∙ ap (λ (l : List LiveBuffer). held_at l at) (sym same.live);
        given = λ at. is.given at ∙ ap (λ (l : List ℕ). list_any (λ g. eqb g at) l) (sym same.given);
      }

  -- and the table of slabs
  pub plain_keeps_slabs : (slabs : HeapSlabs) (op : Op) (answer : Reply) → TablesLookAtSlabs → is_plain_call op ≡ true → IsTidyReply setting state thread op answer → IsTableOf setting state slabs
      → IsTableOf setting (after_call setting state thread op answer) slabs
  plain_keeps_slabs slabs op answer look kind allowed is =
      let same = plain_keeps op answer kind allowed.reply in
      look setting state (after_call setting state thread op answer) slabs is (λ at. ap (λ (l : List LiveBuffer). is_some (held_at l at)) same.live) same.slabs same.grown
