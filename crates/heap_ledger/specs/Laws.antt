-- What follows of the definitions of this crate: the statements, which laws prove.
use Rattle.std.specs.Prelude.{◌≡◌, ℕ, ◌+◌, ◌<◌, ◌≤◌, ◌↔◌, ◌==◌, List, [], ◌∷◌, ◌++◌, None, Some, length, take, if◌then◌else◌}
use Rattle.script.specs.declared.operation.Op.TheVariants.{Reap}
use Rattle.script.specs.Plan.{Call, Plan, call_count}
use Rattle.script.specs.Rules.{IsPlan, IsTurn}
use Rattle.plain_heap.specs.declared.entry.Body.{Body}
use Rattle.plain_heap.specs.declared.entry.Entry.{Entry}
use Rattle.plain_heap.specs.declared.reply.Reply.{Reply}
use Rattle.plain_heap.specs.declared.reply.Reply.TheVariants as reply
use Rattle.plain_heap.specs.Calls.{Follows, IsFinished, calls_of, due_call, next_call, number_of_calls, turns_made, turns_of_plan}
use Rattle.plain_heap.specs.Legal.{IsAllocFrom}
use Rattle.plain_heap.specs.State.{after_call, after_grow, new_slab}
use Rattle.heap_ledger.specs.declared.slab_at.SlabAt.{SlabAt}
use Rattle.heap_ledger.specs.Behind.{IsBehind}
use Rattle.heap_ledger.specs.Commits.{AreReaped, CanGrow, IsTidyReply, after_shrinks}
use Rattle.heap_ledger.specs.Ledger.{AreInner, IsLedger, Ledger, MayCommit, after_commit, grown, run_setting, run_state, shrunk}

-- ---- which commits may be made

-- an answer that is allowed and tidy may be committed with the next call of a thread
abbrev pub AnswersMayBeCommitted : Type 0
AnswersMayBeCommitted =
    (ledger : Ledger) (thread : ℕ) (call : Call) (answer : Reply) → IsLedger ledger
    → next_call ledger.plan ledger.entries thread ≡ Some call
    → IsTidyReply (run_setting ledger) (run_state ledger) thread call.op answer → MayCommit ledger thread [] answer

-- so may one from a slab that can be made, which is allowed and tidy once the slab stands
abbrev pub GrowsMayBeCommitted : Type 0
GrowsMayBeCommitted =
    (ledger : Ledger) (thread : ℕ) (call : Call) (slab : SlabAt) (answer : Reply) → IsLedger ledger
    → next_call ledger.plan ledger.entries thread ≡ Some call
    → CanGrow (run_setting ledger) (run_state ledger) slab
    → IsTidyReply (run_setting ledger) (after_grow (run_setting ledger) (run_state ledger) slab.cache slab.base) thread
    call.op answer
    → IsAllocFrom (run_setting ledger) (new_slab (run_setting ledger) (run_state ledger) slab.cache slab.base) call.op
    answer
    → MayCommit ledger thread (grown slab ∷ []) answer

-- and a reap with exactly the slabs that it gives back
abbrev pub ReapsMayBeCommitted : Type 0
ReapsMayBeCommitted =
    (ledger : Ledger) (thread : ℕ) (call : Call) (slabs : List SlabAt) → IsLedger ledger
    → next_call ledger.plan ledger.entries thread ≡ Some call → call.op ≡ Reap
    → AreReaped (run_setting ledger) (run_state ledger) slabs → MayCommit ledger thread (shrunk slabs) reply.Ok

-- ---- what commits leave

-- a call and its answer are one step of the state
abbrev pub CommittedAnswersAreSteps : Type 0
CommittedAnswersAreSteps =
    (ledger : Ledger) (thread : ℕ) (call : Call) (answer : Reply)
    → run_state (after_commit ledger thread [] call answer)
    ≡ after_call (run_setting ledger) (run_state ledger) thread call.op answer

-- behind a slab that was made for it, it is a step from the state with that slab
abbrev pub CommittedGrowsAreSteps : Type 0
CommittedGrowsAreSteps =
    (ledger : Ledger) (thread : ℕ) (call : Call) (slab : SlabAt) (answer : Reply)
    → run_state (after_commit ledger thread (grown slab ∷ []) call answer)
    ≡ after_call (run_setting ledger) (after_grow (run_setting ledger) (run_state ledger) slab.cache slab.base) thread
    call.op answer

-- behind slabs that were given back, it is a step from the state without them
abbrev pub CommittedReapsAreSteps : Type 0
CommittedReapsAreSteps =
    (ledger : Ledger) (thread : ℕ) (call : Call) (slabs : List SlabAt) (answer : Reply)
    → run_state (after_commit ledger thread (shrunk slabs) call answer)
    ≡ after_call (run_setting ledger) (after_shrinks (run_state ledger) slabs) thread call.op answer

-- a commit makes one call of its thread
abbrev pub CommitsMakeOneCall : Type 0
CommitsMakeOneCall =
    (ledger : Ledger) (thread : ℕ) (inner : List Body) (call : Call) (answer : Reply) → AreInner inner
    → turns_made (after_commit ledger thread inner call answer).entries
    ≡ turns_made ledger.entries ++ record { thread = thread; call = call } ∷ []

-- so its thread made one call more, and every other as many as before
abbrev pub CommitsCountOneCall : Type 0
CommitsCountOneCall =
    (ledger : Ledger) (thread other : ℕ) (inner : List Body) (call : Call) (answer : Reply) → AreInner inner
    → number_of_calls other (turns_made (after_commit ledger thread inner call answer).entries)
    ≡ number_of_calls other (turns_made ledger.entries) + (if thread == other then 1 else 0)

-- ---- the calls of a plan

-- the next call of a thread is a turn of the plan's header, and so keeps its limits
abbrev pub NextCallsKeepTheirLimits : Type 0
NextCallsKeepTheirLimits =
    (plan : Plan) (entries : List Entry) (thread : ℕ) (call : Call) → IsPlan plan
    → next_call plan entries thread ≡ Some call → IsTurn plan.header (record { thread = thread; call = call })

-- what follows a plan made the first calls that each thread has in it
abbrev pub FirstCallsAreMade : Type 0
FirstCallsAreMade =
    (plan : Plan) (entries : List Entry) (thread : ℕ) → Follows plan entries
    → calls_of thread (turns_made entries)
    ≡ take (number_of_calls thread (turns_made entries)) (calls_of thread (turns_of_plan plan))

-- where no thread of the header has a next call, all calls of the plan were made
abbrev pub WhereNoneIsNextAllAreMade : Type 0
WhereNoneIsNextAllAreMade =
    (plan : Plan) (entries : List Entry) → IsPlan plan → Follows plan entries
    → ((thread : ℕ) → thread < plan.header.threads → next_call plan entries thread ≡ None) → IsFinished plan entries

-- no more calls were made than the plan has
abbrev pub CallsMadeAreFew : Type 0
CallsMadeAreFew =
    (plan : Plan) (entries : List Entry) → IsPlan plan → Follows plan entries
    → length (turns_made entries) ≤ call_count plan

-- a call of a thread is due unless there is a cause why it is not
abbrev pub CallsAreDueUnlessBehind : Type 0
CallsAreDueUnlessBehind =
    (plan : Plan) (entries : List Entry) (thread number : ℕ)
    → due_call plan entries thread number ≡ None ↔ IsBehind plan entries thread number
