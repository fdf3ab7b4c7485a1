-- What commits give, and which entries they add.
use Rattle.std.specs.Prelude.{◌≡◌, ◌≢◌, ℕ, Bool, List, [], ◌∷◌, Option, None, Some, if◌then◌else◌}
use Rattle.std.specs.Option.{option_and_then}
use Rattle.script.specs.declared.operation.Op.{Op}
use Rattle.script.specs.Plan.{Call}
use Rattle.plain_heap.specs.declared.reply.Reply.{Reply}
use Rattle.plain_heap.specs.declared.reply.Reply.TheVariants.{Ok}
use Rattle.plain_heap.specs.Calls.{due_call}
use Rattle.plain_heap.specs.Laws.{IsAnsweredAt}
use Rattle.heap_ledger.specs.declared.slab_at.SlabAt.{SlabAt}
use Rattle.heap_ledger.specs.Commits.{AreReaped, IsTidyReply}
use Rattle.heap_ledger.specs.Ledger.{Ledger, after_commit, grown as grown_entry, run_setting, run_state, shrunk}
use Rattle.heap_memory.specs.declared.chunk.Chunk.{Chunk}
use Rattle.heap_slabs.specs.Chunks.{HasNoFreeChunk}
use Rattle.heap_accounts.specs.declared.chunk_request.ChunkRequest.{ChunkRequest}
use Rattle.heap_accounts.specs.declared.freed.Freed.{Freed}
use Rattle.heap_accounts.specs.declared.freed.Freed.TheVariants as freed
use Rattle.heap_accounts.specs.declared.fresh.Fresh.{Fresh}
use Rattle.heap_accounts.specs.declared.grown.Grown.{Grown}
use Rattle.heap_accounts.specs.declared.grown.Grown.TheVariants as grown
use Rattle.heap_accounts.specs.declared.last.Last.{Last}
use Rattle.heap_accounts.specs.declared.last.Last.TheVariants as last
use Rattle.heap_accounts.specs.declared.tried.Tried.{Tried}
use Rattle.heap_accounts.specs.declared.tried.Tried.TheVariants as tried
use Rattle.heap_accounts.specs.declared.turn.Turn.{Turn}
use Rattle.heap_accounts.specs.declared.turn.Turn.TheVariants.{Behind, Made}
use Rattle.heap_accounts.specs.Allocs.{HasFreeNumber, HasNoFreeNumber}
use Rattle.heap_accounts.specs.Frees.{IsRoundOf}
use Rattle.heap_accounts.specs.Grows.{HasNoRunOf, IsFresh, IsLowestLeft, fresh_start, fresh_state, fresh_slab}
use Rattle.heap_accounts.specs.Kinds.{chunk_request, is_free, is_chunk_call, is_reap_call}

-- the call of a thread of that number, if it is the thread's next one and of a kind
abbrev pub due_of : (Op → Bool) → Ledger → ℕ → ℕ → Option Call
due_of kind ledger thread number =
    option_and_then (λ call. if kind call.op then Some call else None)
    (due_call ledger.plan ledger.entries thread number)

-- no such call is due, and nothing was made
pub record Waits (kind : Op → Bool) (old new : Ledger) (thread number : ℕ) : Type 0 where
  pub none : due_of kind old thread number ≡ None
  pub same : new ≡ old

-- such a call was due, and was answered as the state before it allows, with the lowest pages that fit; its entry stands
-- behind the others, and nothing else was made
pub record Makes (kind : Op → Bool) (old new : Ledger) (thread number : ℕ) (answer : Reply) : Type 0 where
  pub call : Call
  pub due : due_of kind old thread number ≡ Some call
  pub reply : IsTidyReply (run_setting old) (run_state old) thread call.op answer
  pub made : new ≡ after_commit old thread [] call answer

-- what a commit of calls of a kind gives
abbrev pub TakesTurn : (Op → Bool) → Ledger → Ledger → ℕ → ℕ → Turn → Type 0
TakesTurn kind old new thread number Behind = Waits kind old new thread number
TakesTurn kind old new thread number (Made answer) = Makes kind old new thread number answer

-- ---- frees

-- a free was due and answered; a round came back exactly where it gave a chunk back, and has that chunk's number; and
-- any other answer than ok changed nothing but that its entry was added
pub record MakesFree (old new : Ledger) (thread number : ℕ) (answer : Reply) (round : Option ℕ) : Type 0 where
  pub call : Call
  pub due : due_of is_free old thread number ≡ Some call
  pub reply : IsTidyReply (run_setting old) (run_state old) thread call.op answer
  pub back : IsRoundOf (run_setting old) (run_state old) thread call.op answer round
  pub made : new ≡ after_commit old thread [] call answer
  pub kept : answer ≢ Ok → run_state new ≡ run_state old

-- what a commit of a free gives
abbrev pub TakesFree : Ledger → Ledger → ℕ → ℕ → Freed → Type 0
TakesFree old new thread number freed.Behind = Waits is_free old new thread number
TakesFree old new thread number (freed.Made answer round) = MakesFree old new thread number answer round

-- ---- allocations by a round

-- an allocation from a cache was due, no free chunk of the cache has the number, and nothing was made
pub record IsTaken (old new : Ledger) (thread number wanted : ℕ) : Type 0 where
  pub call : Call
  pub due : due_of is_chunk_call old thread number ≡ Some call
  pub request : ChunkRequest
  pub asked : chunk_request (run_setting old) call.op ≡ Some request
  pub none : HasNoFreeNumber request.cache wanted (run_setting old) (run_state old)
  pub same : new ≡ old

-- such an allocation was due, and was answered with the free chunk of the cache that has the number
pub record MakesWith (old new : Ledger) (thread number wanted : ℕ) (answer : Reply) : Type 0 where
  pub call : Call
  pub due : due_of is_chunk_call old thread number ≡ Some call
  pub request : ChunkRequest
  pub asked : chunk_request (run_setting old) call.op ≡ Some request
  pub chunk : Chunk
  pub free : HasFreeNumber request.cache wanted chunk (run_setting old) (run_state old)
  pub at : IsAnsweredAt answer chunk.address
  pub reply : IsTidyReply (run_setting old) (run_state old) thread call.op answer
  pub made : new ≡ after_commit old thread [] call answer

-- what a commit of an allocation by a round gives
abbrev pub TakesRound : Ledger → Ledger → ℕ → ℕ → ℕ → Tried → Type 0
TakesRound old new thread number wanted tried.Behind = Waits is_chunk_call old new thread number
TakesRound old new thread number wanted tried.Taken = IsTaken old new thread number wanted
TakesRound old new thread number wanted (tried.Made answer) = MakesWith old new thread number wanted answer

-- ---- allocations by a slab that is made for them

-- an allocation from a cache was due, no run of pages is free for a slab of the cache, and nothing was made
pub record HasNoRunFor (old new : Ledger) (thread number : ℕ) : Type 0 where
  pub call : Call
  pub due : due_of is_chunk_call old thread number ≡ Some call
  pub request : ChunkRequest
  pub asked : chunk_request (run_setting old) call.op ≡ Some request
  pub none : HasNoRunOf request.cache (run_setting old) (run_state old)
  pub same : new ≡ old

-- such an allocation was due, and was answered with the first chunk of a slab that was made for it at the lowest run,
-- as the state with that slab allows; the two entries stand behind the others
pub record MakesGrown (old new : Ledger) (thread number : ℕ) (answer : Reply) (fresh : Fresh) : Type 0 where
  pub call : Call
  pub due : due_of is_chunk_call old thread number ≡ Some call
  pub request : ChunkRequest
  pub asked : chunk_request (run_setting old) call.op ≡ Some request
  pub its : IsFresh request.cache fresh (run_setting old) (run_state old)
  pub at : IsAnsweredAt answer (fresh_start request.cache fresh (run_setting old) (run_state old))
  pub reply : IsTidyReply (run_setting old) (fresh_state request.cache fresh (run_setting old) (run_state old)) thread
      call.op answer
  pub made : new ≡ after_commit old thread (grown_entry (fresh_slab request.cache fresh) ∷ []) call answer

-- what a commit of an allocation by a new slab gives
abbrev pub TakesGrow : Ledger → Ledger → ℕ → ℕ → Grown → Type 0
TakesGrow old new thread number grown.Behind = Waits is_chunk_call old new thread number
TakesGrow old new thread number grown.NoRun = HasNoRunFor old new thread number
TakesGrow old new thread number (grown.Made answer fresh) = MakesGrown old new thread number answer fresh

-- ---- allocations by what is left

-- such an allocation was due, and was answered with the free chunk that has the lowest number, or with no space, as the
-- state before it allows
pub record MakesLeft (old new : Ledger) (thread number : ℕ) (answer : Reply) : Type 0 where
  pub call : Call
  pub due : due_of is_chunk_call old thread number ≡ Some call
  pub request : ChunkRequest
  pub asked : chunk_request (run_setting old) call.op ≡ Some request
  pub lowest : IsLowestLeft request.cache answer (run_setting old) (run_state old)
  pub reply : IsTidyReply (run_setting old) (run_state old) thread call.op answer
  pub made : new ≡ after_commit old thread [] call answer

-- it was answered by a slab that was made for it, where each chunk of the cache lived
pub record MakesGrownLast (old new : Ledger) (thread number : ℕ) (answer : Reply) (fresh : Fresh) : Type 0 where
  pub call : Call
  pub due : due_of is_chunk_call old thread number ≡ Some call
  pub request : ChunkRequest
  pub asked : chunk_request (run_setting old) call.op ≡ Some request
  pub none : HasNoFreeChunk request.cache (run_setting old) (run_state old)
  pub makes : MakesGrown old new thread number answer fresh

-- what a commit of an allocation by what is left gives
abbrev pub TakesLast : Ledger → Ledger → ℕ → ℕ → Last → Type 0
TakesLast old new thread number last.Behind = Waits is_chunk_call old new thread number
TakesLast old new thread number (last.Made answer None) = MakesLeft old new thread number answer
TakesLast old new thread number (last.Made answer (Some fresh)) = MakesGrownLast old new thread number answer fresh

-- ---- reaps

-- a reap was due, and was answered with ok; exactly the slabs of which no chunk lived were given back, by cache and
-- then by base, and an entry for each stands in this order directly before its own, behind the others
pub record MakesReap (old new : Ledger) (thread number : ℕ) (answer : Reply) : Type 0 where
  pub call : Call
  pub due : due_of is_reap_call old thread number ≡ Some call
  pub slabs : List SlabAt
  pub reaped : AreReaped (run_setting old) (run_state old) slabs
  pub ok : answer ≡ Ok
  pub made : new ≡ after_commit old thread (shrunk slabs) call Ok

-- what a commit of a reap gives
abbrev pub TakesReap : Ledger → Ledger → ℕ → ℕ → Turn → Type 0
TakesReap old new thread number Behind = Waits is_reap_call old new thread number
TakesReap old new thread number (Made answer) = MakesReap old new thread number answer
