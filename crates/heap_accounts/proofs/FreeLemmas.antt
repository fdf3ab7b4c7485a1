-- What frees ask for, and what lives where one is answered ok.
use Rattle.std.proofs.Common.{◌≡◌, ◌≢◌, ℕ, Bool, true, false, cond, eqb, List, Option, Some, None, refl, sym, ap, ◌∙◌, subst, arith}
use Rattle.std.specs.Prelude.{IfSome, IsSome, is_some}
use Rattle.std.specs.FinMap.{get}
use Rattle.script.specs.declared.operation.Op.{Op}
use Rattle.script.specs.declared.operation.Op.TheVariants.{Alloc, Zalloc, Free, CacheAlloc, CacheFree, Copy, Clear, Store, Link, Load, Reap}
use Rattle.script.specs.declared.tree.Header.{Header}
use Rattle.script.specs.Rules.{IsOp, IsSlot}
use Rattle.plain_heap.specs.declared.entry.Entry.{Entry}
use Rattle.plain_heap.specs.declared.held.Held.{Held}
use Rattle.plain_heap.specs.declared.reply.Reply.{Reply}
use Rattle.plain_heap.specs.declared.reply.Reply.TheVariants as reply
use Rattle.plain_heap.specs.Frees.{IsFreeOp, judgement, refusal_of}
use Rattle.plain_heap.specs.Live.{HeldByAddress, TellsLive, live_at}
use Rattle.plain_heap.specs.Replies.{free_answer, has_finding_at, refusal_by_cache, refusal_by_size, word_answer}
use Rattle.plain_heap.specs.Setting.{Setting}
use Rattle.plain_heap.specs.State.{State, after_call, after_free, give_back, state_of, with_slot, word_of_slot}
use Rattle.plain_heap.proofs.LiveLemmas.{answered_alike}
use Rattle.heap_ledger.specs.Commits.{IsTidyReply}
use Rattle.heap_memory.specs.Memory.{Memory}
use Rattle.heap_memory.specs.States.{Becomes, ForEachState}
use Rattle.heap_slabs.specs.Laws.{TablesLookAtSlabs}
use Rattle.heap_accounts.specs.declared.tables.Tables.{Tables}
use Rattle.heap_accounts.specs.Frees.{IsRoundOf, number_there, number_back}
use Rattle.heap_accounts.specs.Kinds.{freed_slot, is_free}
use Rattle.heap_accounts.specs.Tables.{AreOfHistory, AreTablesOf, ForEachHistory, Leaves, Performs}
use Rattle.heap_accounts.proofs.EnteringLemmas.{slot_table, slot_tells}

-- what is known of an operation that gives a slot's buffer back
pub record AsksToFree (setting : Setting) (state : State) (thread : ℕ) (op : Op) (slot : ℕ) : Type 0 where
  pub kind : is_free op ≡ true
  pub frees : IsFreeOp op
  pub told : (buffers : HeldByAddress) → TellsLive buffers state
      → IsTidyReply setting state thread op (judgement buffers op (word_of_slot state thread slot) (has_finding_at setting state (word_of_slot state thread slot)))
  pub after : (answer : Reply) → after_call setting state thread op answer ≡ after_free setting state thread slot answer

pub asks_to_free : (setting : Setting) (state : State) (thread : ℕ) (op : Op) (slot : ℕ) → freed_slot op ≡ Some slot → AsksToFree setting state thread op slot
asks_to_free setting state thread op slot is = by op is
  where
    by : (op : Op) → freed_slot op ≡ Some slot → AsksToFree setting state thread op slot
    by (Free its size) is =
        let same : its ≡ slot = cc in
        subst (λ (s : ℕ). AsksToFree setting state thread (Free its size) s) same (record {
          kind = refl;
          frees = tt;
          told = λ buffers tells. record {
            reply = answered_alike state buffers (word_of_slot state thread its) (refusal_by_size size) (has_finding_at setting state (word_of_slot state thread its)) tells;
            tidy = tt;
          };
          after = λ answer. refl;
        })
    by (CacheFree its cache) is =
        let same : its ≡ slot = cc in
        subst (λ (s : ℕ). AsksToFree setting state thread (CacheFree its cache) s) same (record {
          kind = refl;
          frees = tt;
          told = λ buffers tells. record {
            reply = answered_alike state buffers (word_of_slot state thread its) (refusal_by_cache cache) (has_finding_at setting state (word_of_slot state thread its)) tells;
            tidy = tt;
          };
          after = λ answer. refl;
        })
    by (Alloc its size) is = absurd (cc is)
    by (Zalloc its size) is = absurd (cc is)
    by (CacheAlloc its cache) is = absurd (cc is)
    by (Copy to from) is = absurd (cc is)
    by (Clear its) is = absurd (cc is)
    by (Store its offset stored) is = absurd (cc is)
    by (Link its offset value) is = absurd (cc is)
    by (Load to its offset) is = absurd (cc is)
    by Reap is = absurd (cc is)

-- a word whose free is answered ok is the address of a live buffer
pub lives_where_ok : (word : ℕ) (held : Option Held) (given : Bool) (refusal : Held → Option Reply) (found : Bool) → free_answer word held given refusal found ≡ reply.Ok → (its : Held) × (held ≡ Some its)
lives_where_ok word held given refusal found is = at (eqb word 0) held is
  where
    unknown : (given : Bool) → cond given reply.Dup reply.BadAddr ≡ reply.Ok → ⊥
    unknown true h = absurd (cc h)
    unknown false h = absurd (cc h)

    at : (null : Bool) (held : Option Held) → cond null reply.Null (word_answer held given refusal found) ≡ reply.Ok → (its : Held) × (held ≡ Some its)
    at true held h = absurd (cc h)
    at false None h = absurd (unknown given h)
    at false (Some its) h = (its, refl)

-- ---- what a free makes of the tables

-- an answer that is not ok changed nothing
pub not_ok : (setting : Setting) (state : State) (thread slot : ℕ) (answer : Reply) → answer ≢ reply.Ok → after_free setting state thread slot answer ≡ state
not_ok setting state thread slot reply.Ok isnt = absurd (isnt refl)
not_ok setting state thread slot reply.Null isnt = refl
not_ok setting state thread slot reply.NoSpace isnt = refl
not_ok setting state thread slot (reply.At address report) isnt = refl
not_ok setting state thread slot reply.Dup isnt = refl
not_ok setting state thread slot reply.BadAddr isnt = refl
not_ok setting state thread slot reply.BadCache isnt = refl
not_ok setting state thread slot reply.BadSize isnt = refl
not_ok setting state thread slot reply.Redzone isnt = refl
not_ok setting state thread slot reply.Fault isnt = refl
not_ok setting state thread slot (reply.Word word) isnt = refl

-- and no round came back
pub no_round : (setting : Setting) (state : State) (word : ℕ) (answer : Reply) → answer ≢ reply.Ok → None ≡ number_back setting state word answer
no_round setting state word reply.Ok isnt = absurd (isnt refl)
no_round setting state word reply.Null isnt = refl
no_round setting state word reply.NoSpace isnt = refl
no_round setting state word (reply.At address report) isnt = refl
no_round setting state word reply.Dup isnt = refl
no_round setting state word reply.BadAddr isnt = refl
no_round setting state word reply.BadCache isnt = refl
no_round setting state word reply.BadSize isnt = refl
no_round setting state word reply.Redzone isnt = refl
no_round setting state word reply.Fault isnt = refl
no_round setting state word (reply.Word loaded) isnt = refl

-- the slot of a free that keeps its limits is one
pub free_slot : (header : Header) (op : Op) (slot : ℕ) → freed_slot op ≡ Some slot → IsOp header op → IsSlot header slot
free_slot header (Free its size) slot is limits = let same : its ≡ slot = cc in subst (IsSlot header) same limits.0
free_slot header (CacheFree its cache) slot is limits = let same : its ≡ slot = cc in subst (IsSlot header) same limits.0
free_slot header (Alloc its size) slot is limits = absurd (cc is)
free_slot header (Zalloc its size) slot is limits = absurd (cc is)
free_slot header (CacheAlloc its cache) slot is limits = absurd (cc is)
free_slot header (Copy to from) slot is limits = absurd (cc is)
free_slot header (Clear its) slot is limits = absurd (cc is)
free_slot header (Store its offset stored) slot is limits = absurd (cc is)
free_slot header (Link its offset value) slot is limits = absurd (cc is)
free_slot header (Load to its offset) slot is limits = absurd (cc is)
free_slot header Reap slot is limits = absurd (cc is)

-- it is the slot whose word was looked at
round_at : (setting : Setting) (state : State) (thread : ℕ) (op : Op) (slot : ℕ) (answer : Reply) (round : Option ℕ) → freed_slot op ≡ Some slot
    → round ≡ number_back setting state (word_of_slot state thread slot) answer → IsRoundOf setting state thread op answer round
round_at setting state thread op slot answer round is told =
    subst (λ (o : Option ℕ). IfSome o (λ s. round ≡ number_back setting state (word_of_slot state thread s) answer)) (sym is) told

module _ (tables : Tables) (thread : ℕ) (op : Op) (slot word : ℕ) (finding : Bool) (answer : Reply) (is : freed_slot op ≡ Some slot)
    (at : ForEachState (λ setting state. word ≡ word_of_slot state thread slot) tables.memory) (found : ForEachHistory (λ setting state. finding ≡ has_finding_at setting state word) tables)
    (judged : answer ≡ judgement tables.live.buffers op word finding) where
  -- the answer is the one that the state allows
  free_told : (setting : Setting) (entries : List Entry) → AreOfHistory setting entries tables → IsTidyReply setting (state_of setting entries) thread op answer
  free_told setting entries of =
      let state = state_of setting entries in
      let told = (asks_to_free setting state thread op slot is).told tables.live.buffers of.are.buffers in
      let same : answer ≡ judgement tables.live.buffers op (word_of_slot state thread slot) (has_finding_at setting state (word_of_slot state thread slot)) =
      judged ∙ ap (judgement tables.live.buffers op word) (found setting entries of)
      ∙ ap (λ (w : ℕ). judgement tables.live.buffers op w (has_finding_at setting state w)) (at setting state of.header of.are.bytes) in
      subst (IsTidyReply setting state thread op) (sym same) told

  -- where it is not ok
  pub free_refused : answer ≢ reply.Ok → (is_free op ≡ true) × Performs tables tables thread op answer × ForEachHistory (λ setting state. IsRoundOf setting state thread op answer None) tables
  free_refused isnt = (
    ap is_some is,
    record {
      reply = free_told;
      after = λ setting entries of.
          let state = state_of setting entries in
          subst (λ (s : State). AreTablesOf setting s tables) (sym ((asks_to_free setting state thread op slot is).after answer ∙ not_ok setting state thread slot answer isnt)) of.are;
      room = omega arith;
    },
    λ setting entries of. round_at setting (state_of setting entries) thread op slot answer None is (no_round setting (state_of setting entries) (word_of_slot (state_of setting entries) thread slot) answer isnt),
  )

  -- where it is, a buffer lives at the word
  pub lives_there : answer ≡ reply.Ok → IsSome (live_at tables.live.buffers word)
  lives_there ok =
      let its = lives_where_ok word (live_at tables.live.buffers word) (is_some (get tables.live.buffers word)) (refusal_of op) finding (sym judged ∙ ok) in
      ap is_some its.1

  -- and was given back
  pub free_done : (given : Tables) (memory : Memory) (round : Option ℕ) → answer ≡ reply.Ok → TablesLookAtSlabs
      → Leaves (λ setting state. give_back setting state word) tables given → ForEachHistory (λ setting state. round ≡ number_there setting state word) tables
      → given.live.spare ≡ tables.live.spare → Becomes (λ setting state. with_slot state thread slot 0) given.memory memory
      → (is_free op ≡ true) × Performs tables (record { memory = memory; live = given.live; slabs = given.slabs }) thread op answer
      × ForEachHistory (λ setting state. IsRoundOf setting state thread op answer round) tables
  free_done given memory round ok look gave numbered room put = (
    ap is_some is,
    record {
      reply = free_told;
      after = λ setting entries of.
          let state = state_of setting entries in
          let next : Tables = record { memory = memory; live = given.live; slabs = given.slabs } in
          let are = gave setting entries of in
          let done : AreTablesOf setting (with_slot (give_back setting state word) thread slot 0) next = record {
            bytes = put setting (give_back setting state word) of.header are.bytes;
            buffers = slot_tells (give_back setting state word) given.live.buffers thread slot 0 are.buffers;
            slabs = slot_table setting (give_back setting state word) given.slabs thread slot 0 look are.slabs;
          } in
          subst (λ (s : State). AreTablesOf setting s next) (sym ((asks_to_free setting state thread op slot is).after answer ∙ ap (after_free setting state thread slot) ok))
          (subst (λ (w : ℕ). AreTablesOf setting (with_slot (give_back setting state w) thread slot 0) next) (at setting state of.header of.are.bytes) done);
      room = omega (arith, room);
    },
    λ setting entries of.
        let state = state_of setting entries in
        round_at setting state thread op slot answer round is
        (numbered setting entries of ∙ ap (number_there setting state) (at setting state of.header of.are.bytes) ∙ sym (ap (number_back setting state (word_of_slot state thread slot)) ok)),
  )
