-- Allocations from caches of which nothing is left.
use Rattle.std.proofs.Common.{◌≡◌, ℕ, [], Option, Some, None, refl, sym, ap, ◌∙◌, subst}
use Rattle.script.specs.Plan.{Call}
use Rattle.plain_heap.specs.declared.reply.Reply.{Reply}
use Rattle.plain_heap.specs.declared.reply.Reply.TheVariants as reply
use Rattle.plain_heap.specs.Replies.{IsCacheReply, IsReply}
use Rattle.plain_heap.specs.Setting.{Setting}
use Rattle.plain_heap.specs.State.{State, held_at}
use Rattle.heap_ledger.specs.Ledger.{Ledger, after_commit, run_setting, run_state}
use Rattle.heap_memory.specs.declared.chunk.Chunk.{Chunk}
use Rattle.heap_slabs.specs.Chunks.{IsFreeChunk}
use Rattle.heap_accounts.specs.declared.fresh.Fresh.{Fresh}
use Rattle.heap_accounts.specs.FreeChunks.{IsFreeRound}
use Rattle.heap_accounts.specs.Grows.{HasNoRunOf, IsLowestLeft}
use Rattle.heap_accounts.specs.Kinds.{is_chunk_call}
use Rattle.heap_accounts.specs.declared.last.Last.{Last}
use Rattle.heap_accounts.specs.declared.last.Last.TheVariants as last
use Rattle.heap_accounts.specs.Turns.{MakesGrownLast, MakesLeft, TakesLast, Waits}
use Rattle.heap_core.specs.ChunkCalls.{HasNothing, Refuses}
use Rattle.heap_core.proofs.AskedLemmas.{asks_cache, cache_reply, call_is, not_behind}

-- the number of a free chunk is that of a free round
round_of : (setting : Setting) (state : State) (cache : ℕ) (chunk : Chunk) → IsFreeChunk cache chunk setting state → IsFreeRound setting state cache chunk.number
round_of setting state cache chunk free =
    let place = free.0 in
    record {
      slab = place.slab;
      stands = place.stands;
      its = sym place.cache;
      index = place.index;
      within = place.within;
      number = ap (λ (c : Chunk). c.number) place.chunk;
      free = ap (λ (c : Chunk). held_at state.live c.address) (sym place.chunk) ∙ free.1;
    }

-- where no chunk is free, there is no space
no_space : (setting : Setting) (state : State) (cache : ℕ) (answer : Reply) → ((chunk : ℕ) → ¬ IsFreeRound setting state cache chunk) → IsLowestLeft cache answer setting state → IsCacheReply setting state cache answer → answer ≡ reply.NoSpace
no_space setting state cache (reply.At address found) none lowest told = absurd (none lowest.0.number (round_of setting state cache lowest.0 lowest.1.free))
no_space setting state cache reply.NoSpace none lowest told = refl
no_space setting state cache reply.Ok none lowest told = absurd told
no_space setting state cache reply.Null none lowest told = absurd told
no_space setting state cache reply.Dup none lowest told = absurd told
no_space setting state cache reply.BadAddr none lowest told = absurd told
no_space setting state cache reply.BadCache none lowest told = absurd told
no_space setting state cache reply.BadSize none lowest told = absurd told
no_space setting state cache reply.Redzone none lowest told = absurd told
no_space setting state cache reply.Fault none lowest told = absurd told
no_space setting state cache (reply.Word word) none lowest told = absurd told

module _ (ledger : Ledger) (thread number : ℕ) (nothing : HasNothing ledger thread number) where
  pub never_waits : (new : Ledger) → Waits is_chunk_call ledger new thread number → ⊥
  never_waits new is = not_behind ledger thread number nothing.cache nothing.asked is.none

  -- no slab is made
  pub never_grows : (new : Ledger) (answer : Reply) (fresh : Fresh) → MakesGrownLast ledger new thread number answer fresh → ⊥
  never_grows new answer fresh makes =
      let grown = makes.makes in
      let same = asks_cache ledger thread number nothing.cache nothing.asked grown.call grown.request (run_setting ledger) grown.due grown.asked in
      subst (λ c. HasNoRunOf c (run_setting ledger) (run_state ledger)) (sym same) nothing.no_run fresh.base grown.its.lowest.free

  pub refuses : (new : Ledger) (answer : Reply) → MakesLeft ledger new thread number answer → Refuses ledger new thread number answer
  refuses new answer makes =
      let setting = run_setting ledger in
      let state = run_state ledger in
      let same = call_is ledger thread number nothing.cache nothing.asked makes.call makes.due in
      let cache = asks_cache ledger thread number nothing.cache nothing.asked makes.call makes.request setting makes.due makes.asked in
      let told = cache_reply setting state thread nothing.asked.call.op nothing.cache answer nothing.asked.asks (subst (λ (c : Call). IsReply setting state thread c.op answer) same makes.reply.reply) in
      record {
        call = nothing.asked.call;
        due = nothing.asked.due;
        refused = no_space setting state nothing.cache answer nothing.none (subst (λ c. IsLowestLeft c answer setting state) cache makes.lowest) told;
        made = makes.made ∙ ap (λ (c : Call). after_commit ledger thread [] c answer) same;
      }

  -- by what the commit gives
  pub from_made : (new : Ledger) (its : Last) (answer : Reply) (fresh : Option Fresh) → its ≡ last.Made answer fresh → TakesLast ledger new thread number its → Refuses ledger new thread number answer
  from_made new its answer fresh is takes = by_fresh fresh (subst (TakesLast ledger new thread number) is takes)
    where
      by_fresh : (fresh : Option Fresh) → TakesLast ledger new thread number (last.Made answer fresh) → Refuses ledger new thread number answer
      by_fresh None takes = refuses new answer takes
      by_fresh (Some made) takes = absurd (never_grows new answer made takes)

  pub from_behind : (new : Ledger) (its : Last) → its ≡ last.Behind → TakesLast ledger new thread number its → ⊥
  from_behind new its is takes = never_waits new (subst (TakesLast ledger new thread number) is takes)
