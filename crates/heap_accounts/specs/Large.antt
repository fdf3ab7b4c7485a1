-- How a memory makes an allocation of whole pages.
use Rattle.std.specs.Prelude.{◌≡◌, ℕ, Bool}
use Rattle.umem_base.specs.Pages.{HasNoRun, IsLowestRun, pages_for}
use Rattle.plain_heap.specs.declared.reply.Reply.{Reply}
use Rattle.plain_heap.specs.declared.reply.Reply.TheVariants as reply
use Rattle.plain_heap.specs.declared.reply.Report.TheVariants as report
use Rattle.plain_heap.specs.Laws.{large}
use Rattle.plain_heap.specs.Setting.{Setting}
use Rattle.plain_heap.specs.State.{IsFreePage, State, after_alloc}
use Rattle.heap_memory.specs.Memory.{Memory}
use Rattle.heap_memory.specs.States.{Becomes, ForEachState}
use Rattle.heap_accounts.specs.declared.large_request.LargeRequest.{LargeRequest}

-- the lowest run of free pages that fits is handed out, or none fits
abbrev pub IsLowestAnswer : ℕ → Reply → Setting → State → Type 0
IsLowestAnswer size (reply.At address found) setting state =
    IsLowestRun (IsFreePage setting state) (pages_for size) address × (found ≡ report.Clean)
IsLowestAnswer size reply.NoSpace setting state = HasNoRun (IsFreePage setting state) (pages_for size)
IsLowestAnswer size other setting state = ⊥

-- the answer is that of each state that the memory is of, which then is the memory of what the answer leaves
pub record MakesLarge (old new : Memory) (thread : ℕ) (request : LargeRequest) (answer : Reply) : Type 0 where
  pub lowest : ForEachState (IsLowestAnswer request.size answer) old
  pub after : (zero : Bool) → Becomes (λ setting state.
      after_alloc setting state thread request.slot (large request.size) zero answer) old new
