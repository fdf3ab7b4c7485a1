-- Why a call of a thread is not its next one.
use Rattle.std.specs.Prelude.{◌≡◌, ◌≢◌, ℕ, ◌<◌, ◌≤◌, ◌⊎◌, List, None, take}
use Rattle.std.specs.List.{flat_map, slice_get}
use Rattle.script.specs.Plan.{Plan, Turn}
use Rattle.plain_heap.specs.declared.entry.Entry.{Entry}
use Rattle.plain_heap.specs.Calls.{calls_of, number_of_calls, turns_made, turns_of_plan}

-- the turns of the first phases of a plan, so many of them
abbrev pub turns_before : Plan → ℕ → List Turn
turns_before plan place = flat_map (λ phase. phase) (take place plan.phases)

-- the call of a thread of that number waits: it is none of the phases before some place, and another thread, or the
-- same, did not make all calls that it has in those
pub record WaitsForPhase (plan : Plan) (entries : List Entry) (thread number : ℕ) : Type 0 where
  pub place : ℕ
  pub later : number_of_calls thread (turns_before plan place) ≤ number
  pub other : ℕ
  pub unmade : number_of_calls other (turns_made entries) < number_of_calls other (turns_before plan place)

-- the plan has no call of that number of the thread, or the thread made another number of calls, or the call waits
abbrev pub IsBehind : Plan → List Entry → ℕ → ℕ → Type 0
IsBehind plan entries thread number =
    (slice_get (calls_of thread (turns_of_plan plan)) number ≡ None)
    ⊎ ((number_of_calls thread (turns_made entries) ≢ number) ⊎ WaitsForPhase plan entries thread number)
