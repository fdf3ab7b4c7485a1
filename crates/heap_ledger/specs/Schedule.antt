-- Which calls of a plan are left, and which of them is next. Inner: no public clause speaks of these.
use Rattle.std.specs.Prelude.{◌≡◌, ℕ, ◌+◌, ◌<◌, ◌≤◌, ◌⊎◌, Bool, false, ◌==◌, List, [], ◌∷◌, ◌++◌, Option, Some, None, All, map, drop, length, replicate, slice_get, slice_index, slice_index_or, slice_set, if◌then◌else◌}
use Rattle.std.specs.List.{list_all, range_with_len}
use Rattle.std.specs.Option.{option_eq}
use Rattle.script.specs.Plan.{Call, Plan, Turn}
use Rattle.plain_heap.specs.Calls.{calls_of, next_in, number_of_calls}

-- how many calls each thread made, and the calls that each has left, in the phase that runs and in the later ones
pub record Schedule : Type 0 where
  pub made : List ℕ
  pub phase : List (List Call)
  pub later : List (List (List Call))

-- the calls of a phase by thread, of so many threads
abbrev pub by_thread : ℕ → List Turn → List (List Call)
by_thread threads turns = map (λ thread. calls_of thread turns) (range_with_len 0 threads)

-- no thread has a call left in a phase
abbrev pub are_all_empty : List (List Call) → Bool
are_all_empty phase = list_all (λ calls. length calls == 0) phase

-- the calls that a thread has left in a phase
abbrev pub thread_calls : List (List Call) → ℕ → List Call
thread_calls phase thread = slice_index_or phase thread []

-- the first of them
abbrev pub first_left : List (List Call) → ℕ → Option Call
first_left phase thread = slice_get (thread_calls phase thread) 0

-- what is left of a phase once a thread made its first call
abbrev pub without_first : List (List Call) → ℕ → List (List Call)
without_first phase thread = slice_set phase thread (drop 1 (thread_calls phase thread))

-- the call of a thread of that number, if it is its next one
abbrev pub due_in : Schedule → ℕ → ℕ → Option Call
due_in schedule thread number =
    if option_eq (λ a b. a == b) (slice_get schedule.made thread) (Some number) then first_left schedule.phase thread
    else None

-- a phase runs until all of its calls are made, and then the next one that has any
abbrev pub settled : List ℕ → List (List Call) → List (List (List Call)) → Schedule
settled made phase [] = record { made = made; phase = phase; later = [] }
settled made phase (next ∷ later) =
    if are_all_empty phase then settled made next later
    else record { made = made; phase = phase; later = next ∷ later }

-- no call was made
abbrev pub first_schedule : Plan → Schedule
first_schedule plan =
    let threads = plan.header.threads in
    settled (replicate threads 0) [] (map (by_thread threads) plan.phases)

-- a thread made its next call
abbrev pub after_take : Schedule → ℕ → Schedule
after_take schedule thread =
    settled (slice_set schedule.made thread (slice_index schedule.made thread + 1))
    (without_first schedule.phase thread) schedule.later

-- ---- the calls of a plan that were made

-- no thread from that number on has a call among turns
abbrev pub AreOfThreads : ℕ → List Turn → Type 0
AreOfThreads threads turns = (thread : ℕ) → threads ≤ thread → calls_of thread turns ≡ []

-- The schedule of a plan after some of its calls: the phases before the one that runs are done, and whatever is made
-- besides, the next calls are those of the phases that are left.
pub record IsScheduleOf (plan : Plan) (made : List Turn) (schedule : Schedule) : Type 0 where
  pub done : List Turn
  pub phase : List Turn
  pub later : List (List Turn)
  pub next : (more : List Turn) (thread : ℕ)
      → next_in [] plan.phases (made ++ more) thread ≡ next_in done (phase ∷ later) (made ++ more) thread
  pub threads : length schedule.made ≡ plan.header.threads
  pub counts : (thread : ℕ) → thread < plan.header.threads
      → slice_index schedule.made thread ≡ number_of_calls thread made
  pub left : (thread : ℕ)
      → thread_calls schedule.phase thread ≡ drop (number_of_calls thread made) (calls_of thread (done ++ phase))
  pub most : (thread : ℕ) → number_of_calls thread made ≤ number_of_calls thread (done ++ phase)
  pub behind : schedule.later ≡ map (by_thread plan.header.threads) later
  pub known : All (AreOfThreads plan.header.threads) ((done ++ phase) ∷ later)
  pub runs : (are_all_empty schedule.phase ≡ false) ⊎ (later ≡ [])
