-- Allocations that are answered with the chunk of a free round.
use Rattle.std.proofs.Common.{◌≡◌, ℕ, ◌+◌, [], Some, refl, sym, ap, ◌∙◌, subst}
use Rattle.std.specs.Prelude.{option_map}
use Rattle.plain_heap.specs.declared.reply.Reply.{Reply}
use Rattle.plain_heap.specs.declared.reply.Reply.TheVariants as reply
use Rattle.plain_heap.specs.declared.reply.Report.{Report}
use Rattle.plain_heap.specs.Laws.{IsAnsweredAt}
use Rattle.plain_heap.specs.Replies.{IsCacheReply, IsReply}
use Rattle.plain_heap.specs.Setting.{Setting}
use Rattle.plain_heap.specs.State.{State}
use Rattle.script.specs.Plan.{Call}
use Rattle.heap_ledger.specs.Ledger.{Ledger, after_commit, run_setting, run_state}
use Rattle.heap_memory.specs.declared.chunk.Chunk.{Chunk}
use Rattle.heap_memory.specs.Laws.{chunk_of_slab}
use Rattle.heap_accounts.specs.Allocs.{HasFreeNumber}
use Rattle.heap_accounts.specs.FreeChunks.{IsFreeRound}
use Rattle.heap_accounts.specs.Performed.{answer_at}
use Rattle.heap_accounts.specs.Places.{address_of}
use Rattle.heap_accounts.specs.Turns.{IsTaken, MakesWith, Waits}
use Rattle.heap_accounts.specs.Kinds.{is_chunk_call}
use Rattle.heap_accounts.proofs.HoldLemmas.{numbers_tell}
use Rattle.heap_core.specs.ChunkCalls.{CanHandRound, HandsRound}
use Rattle.heap_core.proofs.AskedLemmas.{asks_cache, cache_reply, call_is, not_behind}

-- the chunk of a free round
pub chunk_of : (setting : Setting) (state : State) (cache round : ℕ) → IsFreeRound setting state cache round → (chunk : Chunk) × HasFreeNumber cache round chunk setting state
chunk_of setting state cache round f = (
  chunk_of_slab setting f.slab f.index,
  ((record { slab = f.slab; stands = f.stands; index = f.index; within = f.within; chunk = refl; cache = sym f.its }, f.free), sym f.number),
)

-- an answer at an address is with what is reported there
pub answer_is : (setting : Setting) (state : State) (cache : ℕ) (answer : Reply) (address : ℕ) → IsCacheReply setting state cache answer → IsAnsweredAt answer address → answer_at setting state address ≡ answer
answer_is setting state cache (reply.At at found) address told there =
    ap (λ a. answer_at setting state a) (sym there) ∙ ap (λ (r : Report). reply.At at r) (sym told.1)
answer_is setting state cache reply.Ok address told there = absurd there
answer_is setting state cache reply.Null address told there = absurd there
answer_is setting state cache reply.NoSpace address told there = absurd there
answer_is setting state cache reply.Dup address told there = absurd there
answer_is setting state cache reply.BadAddr address told there = absurd there
answer_is setting state cache reply.BadCache address told there = absurd there
answer_is setting state cache reply.BadSize address told there = absurd there
answer_is setting state cache reply.Redzone address told there = absurd there
answer_is setting state cache reply.Fault address told there = absurd there
answer_is setting state cache (reply.Word word) address told there = absurd there

module _ (ledger : Ledger) (thread number round : ℕ) (can : CanHandRound ledger thread number round) where
  -- its chunk is no other's
  pub not_taken : (new : Ledger) → IsTaken ledger new thread number round → ⊥
  not_taken new is =
      let found = chunk_of (run_setting ledger) (run_state ledger) can.cache round can.free in
      let same = asks_cache ledger thread number can.cache can.asked is.call is.request (run_setting ledger) is.due is.asked in
      is.none found.0 (subst (λ c. HasFreeNumber c round found.0 (run_setting ledger) (run_state ledger)) (sym same) found.1).0 found.1.1

  pub not_waiting : (new : Ledger) → Waits is_chunk_call ledger new thread number → ⊥
  not_waiting new is = not_behind ledger thread number can.cache can.asked is.none

  pub hands : (new : Ledger) (answer : Reply) → MakesWith ledger new thread number round answer → HandsRound ledger new thread number round answer
  hands new answer makes = record {
    call = can.asked.call;
    due = can.asked.due;
    handed = ap (option_map (answer_at (run_setting ledger) (run_state ledger))) there ∙ ap Some its;
    made = makes.made ∙ ap (λ (c : Call). after_commit ledger thread [] c answer) same;
  }
    where
      same : makes.call ≡ can.asked.call
      same = call_is ledger thread number can.cache can.asked makes.call makes.due

      there : address_of (run_setting ledger) (run_state ledger) round ≡ Some makes.chunk.address
      there =
          let place = makes.free.0.0 in
          let told = numbers_tell (run_setting ledger) ledger.entries place.slab place.index can.legal.plan.header can.legal.legal place.stands place.within in
          let is : round ≡ place.slab.first + place.index = sym makes.free.1 ∙ ap (λ (c : Chunk). c.number) place.chunk in
          ap (address_of (run_setting ledger) (run_state ledger)) is ∙ told ∙ ap (λ (c : Chunk). Some c.address) (sym place.chunk)

      its : answer_at (run_setting ledger) (run_state ledger) makes.chunk.address ≡ answer
      its =
          answer_is (run_setting ledger) (run_state ledger) can.cache answer makes.chunk.address
          (cache_reply (run_setting ledger) (run_state ledger) thread can.asked.call.op can.cache answer can.asked.asks
          (subst (λ (c : Call). IsReply (run_setting ledger) (run_state ledger) thread c.op answer) same makes.reply.reply)) makes.at
