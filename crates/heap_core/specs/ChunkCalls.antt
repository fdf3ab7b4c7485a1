-- Allocations from caches by the magazine rules: what is known before a step, and what a step gives.
use Rattle.std.specs.Prelude.{◌≡◌, ℕ, ◌<◌, [], Some}
use Rattle.shelf.specs.Stock.{Stock}
use Rattle.script.specs.Plan.{Call}
use Rattle.plain_heap.specs.declared.reply.Reply.{Reply}
use Rattle.plain_heap.specs.declared.reply.Reply.TheVariants.{NoSpace}
use Rattle.plain_heap.specs.Calls.{due_call}
use Rattle.heap_ledger.specs.Ledger.{IsLedger, Ledger, after_commit, run_setting, run_state}
use Rattle.heap_accounts.specs.declared.turn.Turn.{Turn}
use Rattle.heap_accounts.specs.declared.turn.Turn.TheVariants.{Behind, Made}
use Rattle.heap_accounts.specs.FreeChunks.{IsFreeRound, IsStockOf}
use Rattle.heap_accounts.specs.Grows.{HasNoRunOf}
use Rattle.heap_accounts.specs.Laws.{cache_asked}
use Rattle.heap_accounts.specs.Performed.{IsHandedOut}
use Rattle.heap_accounts.specs.Places.{cache_count, stock_at, with_stock}
use Rattle.heap_core.specs.Heap.{run_places}
use Rattle.heap_core.specs.Performs.{PerformsCall}

-- ---- what is due

-- a call is due that asks a chunk of a cache
pub record IsChunkDue (ledger : Ledger) (thread number cache : ℕ) : Type 0 where
  pub call : Call
  pub due : due_call ledger.plan ledger.entries thread number ≡ Some call
  pub asks : cache_asked call.op ≡ Some cache

-- the stock is that of the cache of which a chunk is asked
pub record IsAskedOf (ledger : Ledger) (thread number : ℕ) (stock : Stock) : Type 0 where
  pub legal : IsLedger ledger
  pub cache : ℕ
  pub asked : IsChunkDue ledger thread number cache
  pub known : cache < cache_count (run_setting ledger)
  pub there : stock ≡ stock_at (run_places ledger) cache
  pub its : IsStockOf (run_setting ledger) (run_state ledger) cache stock

-- ---- a round

-- a chunk is asked of the cache of a free round
pub record CanHandRound (ledger : Ledger) (thread number round : ℕ) : Type 0 where
  pub legal : IsLedger ledger
  pub cache : ℕ
  pub asked : IsChunkDue ledger thread number cache
  pub free : IsFreeRound (run_setting ledger) (run_state ledger) cache round

-- the call was answered with the chunk of a round
pub record HandsRound (old new : Ledger) (thread number round : ℕ) (answer : Reply) : Type 0 where
  pub call : Call
  pub due : due_call old.plan old.entries thread number ≡ Some call
  pub handed : IsHandedOut (run_setting old) (run_state old) round answer
  pub made : new ≡ after_commit old thread [] call answer

-- what is given where a round was found
abbrev pub GivesRound : Ledger → Ledger → ℕ → ℕ → ℕ → Turn → Type 0
GivesRound old new thread number round Behind = ⊥
GivesRound old new thread number round (Made answer) = HandsRound old new thread number round answer

-- ---- no space

-- a chunk is asked of a cache that has no free one, and for which no slab can be made
pub record HasNothing (ledger : Ledger) (thread number : ℕ) : Type 0 where
  pub legal : IsLedger ledger
  pub cache : ℕ
  pub asked : IsChunkDue ledger thread number cache
  pub no_run : HasNoRunOf cache (run_setting ledger) (run_state ledger)
  pub none : (chunk : ℕ) → ¬ IsFreeRound (run_setting ledger) (run_state ledger) cache chunk

-- the call was answered with no space
pub record Refuses (old new : Ledger) (thread number : ℕ) (answer : Reply) : Type 0 where
  pub call : Call
  pub due : due_call old.plan old.entries thread number ≡ Some call
  pub refused : answer ≡ NoSpace
  pub made : new ≡ after_commit old thread [] call answer

-- what is given where nothing is left
abbrev pub GivesNothing : Ledger → Ledger → ℕ → ℕ → Turn → Type 0
GivesNothing old new thread number Behind = ⊥
GivesNothing old new thread number (Made answer) = Refuses old new thread number answer

-- ---- an allocation

-- the call was performed, and the stock is what it leaves of its cache
pub record PerformsChunk (old new : Ledger) (thread number : ℕ) (stock : Stock) (answer : Reply) : Type 0 where
  pub performed : PerformsCall old new thread number answer
  pub cache : ℕ
  pub asked : IsChunkDue old thread number cache
  pub places : run_places new ≡ with_stock (run_places old) cache stock

-- what an allocation gives that is due
abbrev pub GivesChunk : Ledger → Ledger → ℕ → ℕ → Stock → Turn → Type 0
GivesChunk old new thread number stock Behind = ⊥
GivesChunk old new thread number stock (Made answer) = PerformsChunk old new thread number stock answer
