-- The calls of a history, and when they follow those of a plan.
use Rattle.std.specs.Prelude.{◌≡◌, ℕ, Bool, ◌==◌, List, [], ◌∷◌, ◌++◌, Option, Some, None, length, map, filter, take, nat_le, if◌then◌else◌, ⊤}
use Rattle.std.specs.List.{flat_map, list_all, slice_get}
use Rattle.script.specs.Plan.{Call, Turn, Plan}
use Rattle.plain_heap.specs.declared.entry.Body.{Body}
use Rattle.plain_heap.specs.declared.entry.Body.TheVariants as body
use Rattle.plain_heap.specs.declared.entry.Entry.{Entry}

-- ---- the calls of a history

-- the turn of a thread that an entry of it records: its call, and none where it is an inner entry
abbrev pub turns_in_body : ℕ → Body → List Turn
turns_in_body thread (body.Call op frames answer) =
    record { thread = thread; call = record { op = op; frames = frames } } ∷ []
turns_in_body thread (body.Grow cache base) = []
turns_in_body thread (body.Shrink cache base) = []

-- the calls of a history, with who made them, in their order
abbrev pub turns_made : List Entry → List Turn
turns_made entries = flat_map (λ entry. turns_in_body entry.thread entry.body) entries

-- the calls of one thread among turns, in their order
abbrev pub calls_of : ℕ → List Turn → List Call
calls_of thread turns = map (λ turn. turn.call) (filter (λ turn. turn.thread == thread) turns)

-- how many calls of one thread are among turns
abbrev pub number_of_calls : ℕ → List Turn → ℕ
number_of_calls thread turns = length (calls_of thread turns)

-- ---- following a plan

-- each thread made at least as many calls as it has among these turns
abbrev pub are_all_made : List Turn → List Turn → Bool
are_all_made turns made =
    list_all (λ turn. nat_le (number_of_calls turn.thread turns) (number_of_calls turn.thread made)) turns

-- the next call of a thread that made calls, in the first of the phases that has not ended, if it has one there;
-- the turns of the phases before come first
abbrev pub next_in : List Turn → List (List Turn) → List Turn → ℕ → Option Call
next_in earlier [] made thread = None
next_in earlier (phase ∷ phases) made thread =
    if are_all_made (earlier ++ phase) made then next_in (earlier ++ phase) phases made thread
    else slice_get (calls_of thread (earlier ++ phase)) (number_of_calls thread made)

-- the call of a plan that a thread makes next, after some entries: none where it has to wait, or has made all
abbrev pub next_call : Plan → List Entry → ℕ → Option Call
next_call plan entries thread = next_in [] plan.phases (turns_made entries) thread

-- the call of that number, counted from 0 for each thread, if it is the one that the thread makes next
abbrev pub due_call : Plan → List Entry → ℕ → ℕ → Option Call
due_call plan entries thread number =
    if number_of_calls thread (turns_made entries) == number then next_call plan entries thread else None

-- the call of an entry of a thread, if it is one, is the one that the thread makes next, after the entries before it
abbrev pub IsNext : Plan → List Entry → ℕ → Body → Type 0
IsNext plan before thread (body.Call op frames answer) =
    next_call plan before thread ≡ Some (record { op = op; frames = frames })
IsNext plan before thread (body.Grow cache base) = ⊤
IsNext plan before thread (body.Shrink cache base) = ⊤

-- the calls of the entries follow the plan so far: each is the next one of its thread after the entries before it
abbrev pub Follows : Plan → List Entry → Type 0
Follows plan entries =
    (n : ℕ) (entry : Entry) → slice_get entries n ≡ Some entry
    → IsNext plan (take n entries) entry.thread entry.body

-- all turns of a plan
abbrev pub turns_of_plan : Plan → List Turn
turns_of_plan plan = flat_map (λ phase. phase) plan.phases

-- each thread made the calls that it has in the plan, in their order
abbrev pub IsFinished : Plan → List Entry → Type 0
IsFinished plan entries =
    (thread : ℕ) → calls_of thread (turns_made entries) ≡ calls_of thread (turns_of_plan plan)
