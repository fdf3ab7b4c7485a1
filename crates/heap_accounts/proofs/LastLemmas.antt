-- Commits of allocations that are answered with what is left of a cache.
use Rattle.std.proofs.Common.{◌≡◌, ℕ, ◌+◌, ◌<◌, Bool, cond, [], ◌∷◌, Option, Some, None, refl, sym, ap, ◌∙◌, subst, arith}
use Rattle.std.specs.Prelude.{is_some, IsTrue}
use Rattle.std.specs.Option.{option_and_then}
use Rattle.script.specs.Plan.{Call}
use Rattle.script.specs.Rules.{IsOp}
use Rattle.plain_heap.specs.declared.held.Held.{Held}
use Rattle.plain_heap.specs.declared.reply.Reply.{Reply}
use Rattle.plain_heap.specs.declared.reply.Reply.TheVariants as reply
use Rattle.plain_heap.specs.Calls.{due_call}
use Rattle.plain_heap.specs.Laws.{IsAnsweredAt}
use Rattle.plain_heap.specs.Replies.{IsCacheFull}
use Rattle.plain_heap.specs.Setting.{Setting}
use Rattle.plain_heap.specs.State.{IsChunkOfCache, State, held_at, is_live, state_of, with_slot}
use Rattle.plain_heap.proofs.SeparateLemmas.{history_is_separate}
use Rattle.heap_ledger.specs.Commits.{IsTidyReply}
use Rattle.heap_ledger.specs.Ledger.{Commits, Ledger, MayCommit, grown as grown_entry, run_setting, run_state}
use Rattle.heap_memory.specs.declared.chunk.Chunk.{Chunk}
use Rattle.heap_memory.specs.Memory.{Memory}
use Rattle.heap_memory.specs.States.{Becomes}
use Rattle.heap_slabs.specs.Chunks.{HasNoFreeChunk, IsLowestFreeChunk}
use Rattle.heap_slabs.specs.Laws.{TablesLookAtSlabs}
use Rattle.heap_accounts.specs.declared.chunk_request.ChunkRequest.{ChunkRequest}
use Rattle.heap_accounts.specs.declared.fresh.Fresh.{Fresh}
use Rattle.heap_accounts.specs.declared.tables.Tables.{Tables}
use Rattle.heap_accounts.specs.Allocs.{CanHand, HandsChunk}
use Rattle.heap_accounts.specs.Accounts.{AreAccounts}
use Rattle.heap_accounts.specs.Grows.{HandsFirst, HasNoRunOf, IsLowestLeft, ClearsSlot, fresh_slab}
use Rattle.heap_accounts.specs.Kinds.{chunk_request, is_chunk_call}
use Rattle.heap_accounts.specs.Slots.{IsOfSomeState}
use Rattle.heap_accounts.specs.Tables.{AreOfHistory, AreTablesOf, ForEachHistory, KeepsTables}
use Rattle.heap_accounts.specs.Turns.{MakesGrownLast, MakesLeft, due_of}
use Rattle.heap_accounts.proofs.AllocLemmas.{request_slot}
use Rattle.heap_accounts.proofs.AccountsLemmas.{books_after, is_made, may_commit, of_run}
use Rattle.heap_accounts.proofs.ChunkLemmas.{AsksOfCache, asks_of_cache}
use Rattle.heap_accounts.proofs.GrownLemmas.{gives_grown}

-- the slot gets 0
pub refuses : (tables : Tables) (memory : Memory) (thread slot : ℕ) → TablesLookAtSlabs → Becomes (λ setting state. with_slot state thread slot 0) tables.memory memory
    → ClearsSlot tables (record { memory = memory; live = tables.live; slabs = tables.slabs }) thread slot
refuses tables memory thread slot look put = record {
  after = λ setting entries of.
      let state = state_of setting entries in
      record {
        bytes = put setting state of.header of.are.bytes;
        buffers = record { live = of.are.buffers.live; given = of.are.buffers.given };
        slabs = look setting state (with_slot state thread slot 0) tables.slabs of.are.slabs (λ at. refl) refl refl;
      };
  room = omega arith;
}

-- where no chunk of a cache is free and no run for a slab, the cache is full
full : (setting : Setting) (state : State) (cache : ℕ) → HasNoFreeChunk cache setting state → HasNoRunOf cache setting state → IsCacheFull setting state cache
full setting state cache none no_run = record {
  live = λ address there. by address there (held_at state.live address) refl;
  no_run = no_run;
}
  where
    by : (address : ℕ) → IsChunkOfCache setting state cache address → (held : Option Held) → held_at state.live address ≡ held → IsTrue (is_live state address)
    by address there (Some held) is = ap is_some is
    by address there None is =
        let number = there.slab.first + there.chunk.index in
        absurd (none (record { address = address; number = number }) (
          record {
            slab = there.slab;
            stands = there.stands;
            index = there.chunk.index;
            within = there.chunk.within;
            chunk = ap (λ (a : ℕ). let c : Chunk = record { address = a; number = number } in c) there.chunk.there;
            cache = sym there.its;
          },
          is,
        ))

at_lowest : (setting : Setting) (state : State) (cache : ℕ) (chunk : Chunk) → IsLowestFreeChunk cache chunk setting state → (answer : Reply) → IsAnsweredAt answer chunk.address → IsLowestLeft cache answer setting state
at_lowest setting state cache chunk lowest (reply.At address report) at = (chunk, lowest, at)
at_lowest setting state cache chunk lowest reply.Ok at = tt
at_lowest setting state cache chunk lowest reply.Null at = tt
at_lowest setting state cache chunk lowest reply.NoSpace at = tt
at_lowest setting state cache chunk lowest reply.Dup at = tt
at_lowest setting state cache chunk lowest reply.BadAddr at = tt
at_lowest setting state cache chunk lowest reply.BadCache at = tt
at_lowest setting state cache chunk lowest reply.BadSize at = tt
at_lowest setting state cache chunk lowest reply.Redzone at = tt
at_lowest setting state cache chunk lowest reply.Fault at = tt
at_lowest setting state cache chunk lowest (reply.Word word) at = tt

module _ (ledger : Ledger) (thread number : ℕ) (call : Call) (due : due_call ledger.plan ledger.entries thread number ≡ Some call) (tables : Tables) (is : AreAccounts ledger tables)
    (within : thread < ledger.plan.header.threads) (limits : IsOp ledger.plan.header call.op) (request : ChunkRequest) (asked : chunk_request (run_setting ledger) call.op ≡ Some request) where
  asks : AsksOfCache (run_setting ledger) (run_state ledger) thread call.op request
  asks = asks_of_cache (run_setting ledger) (run_state ledger) thread request is.legal.plan.header call.op limits asked

  due_kind : due_of is_chunk_call ledger thread number ≡ Some call
  due_kind = ap (option_and_then (λ (c : Call). cond (is_chunk_call c.op) (Some c) None)) due ∙ ap (λ (b : Bool). cond b (Some call) None) asks.kind

  -- the free chunk of the lowest number
  pub gives_left : (chunk : Chunk) → IsLowestFreeChunk request.cache chunk (run_setting ledger) (run_state ledger) → (next : Tables) (answer : Reply) → HandsChunk tables next thread request chunk answer
      → (new : Ledger) → Commits ledger new thread [] answer → MakesLeft ledger new thread number answer
  gives_left chunk lowest next answer done new commits =
      let can : CanHand request chunk (run_setting ledger) (run_state ledger) = record {
        separate = history_is_separate (run_setting ledger) ledger.entries is.legal.plan.header is.legal.legal;
        is_cache = asks.is_cache;
        requested = asks.requested;
        free = lowest.free;
      } in
      record {
        call = call;
        due = due_kind;
        request = request;
        asked = asked;
        lowest = at_lowest (run_setting ledger) (run_state ledger) request.cache chunk lowest answer done.at;
        reply = asks.told answer (done.reply (run_setting ledger) (run_state ledger) is.legal.plan.header is.are can);
        made = is_made ledger thread number call due new answer commits;
      }

  module _ (none : HasNoFreeChunk request.cache (run_setting ledger) (run_state ledger)) where
    -- a slab that was made for it
    pub gives_grown_last : (next : Tables) (answer : Reply) (fresh : Fresh) → HandsFirst tables next thread request answer fresh → (new : Ledger)
        → Commits ledger new thread (grown_entry (fresh_slab request.cache fresh) ∷ []) answer → MakesGrownLast ledger new thread number answer fresh
    gives_grown_last next answer fresh done new commits = record {
      call = call;
      due = due_kind;
      request = request;
      asked = asked;
      none = none;
      makes = gives_grown ledger thread number call due tables is within limits request asked next answer fresh done new commits;
    }

    -- or no space
    module _ (next : Tables) (without : ForEachHistory (HasNoRunOf request.cache) tables × KeepsTables tables next) where
      its : AreTablesOf (run_setting ledger) (run_state ledger) next
      its = without.1.after (run_setting ledger) ledger.entries (of_run ledger tables is)

      pub slot_known : IsOfSomeState next.memory thread request.slot
      slot_known = record {
        setting = run_setting ledger;
        state = run_state ledger;
        header = is.legal.plan.header;
        is = its.bytes;
        thread_there = within;
        slot_there = request_slot (run_setting ledger) call.op request asked limits;
      }

      told : IsTidyReply (run_setting ledger) (run_state ledger) thread call.op reply.NoSpace
      told = asks.told reply.NoSpace (full (run_setting ledger) (run_state ledger) request.cache none (without.0 (run_setting ledger) ledger.entries (of_run ledger tables is)))

      pub may_refuse : MayCommit ledger thread [] reply.NoSpace
      may_refuse = may_commit ledger thread number call due reply.NoSpace is.legal told

      module _ (last : Tables) (refused : ClearsSlot next last thread request.slot) (new : Ledger) (commits : Commits ledger new thread [] reply.NoSpace) where
        pub stand_refused : AreAccounts new last
        stand_refused =
            let of : AreOfHistory (run_setting ledger) ledger.entries next = record { header = is.legal.plan.header; legal = is.legal.legal; are = its } in
            books_after ledger thread number call due reply.NoSpace is.legal told new last (is_made ledger thread number call due new reply.NoSpace commits)
            (subst (λ (s : State). AreTablesOf (run_setting ledger) s last) (sym (asks.after reply.NoSpace)) (refused.after (run_setting ledger) ledger.entries of))
            (omega (arith, is.room, without.1.room, refused.room)) is.grown

        pub gives_refused : MakesLeft ledger new thread number reply.NoSpace
        gives_refused = record {
          call = call;
          due = due_kind;
          request = request;
          asked = asked;
          lowest = tt;
          reply = told;
          made = is_made ledger thread number call due new reply.NoSpace commits;
        }
