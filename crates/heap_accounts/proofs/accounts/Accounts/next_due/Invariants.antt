use Rattle.std.proofs.Common.{◌≡◌, ℕ, ◌<◌, None}
use Rattle.plain_heap.specs.Calls.{next_call}
use Rattle.heap_accounts.proofs.accounts.Accounts.next_due.Given as goal

abbrev pub invariant-loop-thread : goal.invariant-loop-thread
invariant-loop-thread l = (other : ℕ) → other < l.thread → next_call l.self.plan l.self.entries other ≡ None
