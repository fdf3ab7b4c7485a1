-- The schedule of a plan: it starts as one, the call that it tells is the plan's, and it stays one by each call.
use Rattle.std.proofs.Common.{◌≡◌, ℕ, zero, suc, ◌+◌, ◌<◌, ◌≤◌, inl, inr, Bool, true, false, cond, eqb, leb, List, [], ◌∷◌, ◌++◌, length, map, drop, set, replicate, Option, Some, None, refl, sym, ap, ◌∙◌, subst, arith}
use Rattle.std.specs.Prelude.{All, filter, map, slice_get, slice_index}
use Rattle.std.specs.List.{list_all}
use Rattle.std.specs.Option.{option_eq}
use Rattle.std.proofs.lemmas.Bool.{and_parts, leb-true}
use Rattle.std.proofs.lemmas.Bool.Decides.{eqb_tells, leb_tells}
use Rattle.std.proofs.lemmas.List.{append-nil, append_assoc, get_or-replicate, get_or-set_other, get_or-set_same, get_or_past, drop-drop, length-append, length-drop, length-replicate, length-set, map-append}
use Rattle.std.proofs.lemmas.List.Elements.{All-cons, All-head, All-tail, filter-append}
use Rattle.std.proofs.lemmas.List.FromFn.{get_or-map-range_with_len, length-map-range_with_len, map-range_with_len_more}
use Rattle.std.proofs.lemmas.Option.{slice_get-get_or, slice_get_past}
use Rattle.std.proofs.Math.ListN.{drop_of_length-le}
use Rattle.std.proofs.Math.Seq.{drop-append_seam}
use Rattle.script.specs.Plan.{Call, Plan, Turn}
use Rattle.plain_heap.specs.Calls.{are_all_made, calls_of, next_in, number_of_calls}
use Rattle.heap_ledger.specs.Schedule.{AreOfThreads, IsScheduleOf, Schedule, after_take, are_all_empty, by_thread, due_in, first_left, first_schedule, thread_calls, settled, without_first}

-- ---- lists

-- the first behind some items is the one at their number
pub get_behind : {X : Type 0} (xs : List X) (n : ℕ) → slice_get (drop n xs) 0 ≡ slice_get xs n
get_behind xs zero = refl
get_behind [] (suc n) = refl
get_behind (x ∷ xs) (suc n) = get_behind xs n

pub drop_one_more : {X : Type 0} (xs : List X) (n : ℕ) → drop 1 (drop n xs) ≡ drop (n + 1) xs
drop_one_more xs n = drop-drop 1 n xs

none_behind : {X : Type 0} (xs : List X) (n : ℕ) → length (drop n xs) ≡ 0 → length xs ≤ n
none_behind xs n none = omega (arith, length-drop n xs, none)

-- ---- calls of turns

pub calls_append : (thread : ℕ) (one other : List Turn) → calls_of thread (one ++ other) ≡ calls_of thread one ++ calls_of thread other
calls_append thread one other =
    let its = λ (turn : Turn). eqb turn.thread thread in
    ap (map (λ (turn : Turn). turn.call)) (filter-append its one other) ∙ map-append (λ (turn : Turn). turn.call) (filter its one) (filter its other)

pub number_append : (thread : ℕ) (one other : List Turn) → number_of_calls thread (one ++ other) ≡ number_of_calls thread one + number_of_calls thread other
number_append thread one other = ap length (calls_append thread one other) ∙ length-append (calls_of thread one) (calls_of thread other)

number_behind : (turn : Turn) (turns : List Turn) (thread : ℕ) → eqb turn.thread thread ≡ false → number_of_calls thread (turn ∷ turns) ≡ number_of_calls thread turns
number_behind turn turns thread isnt = rw isnt refl

-- a test of each turn holds of a thread that has one
at_least : (N M : ℕ → ℕ) (turns : List Turn) (thread : ℕ) → list_all (λ (turn : Turn). leb (N turn.thread) (M turn.thread)) turns ≡ true → 0 < number_of_calls thread turns → N thread ≤ M thread
at_least N M [] thread all some = absurd (omega (arith, some))
at_least N M (turn ∷ turns) thread all some =
    let test = λ (turn : Turn). leb (N turn.thread) (M turn.thread) in
    let parts = and_parts (test turn) (list_all test turns) all in
    elim (eqb_tells turn.thread thread) [
      | inl is ↦ subst (λ t. N t ≤ M t) is.1 (leb-true (N turn.thread) (M turn.thread) parts.0)
      | inr isnt ↦ at_least N M turns thread parts.1 (subst (λ (n : ℕ). 0 < n) (number_behind turn turns thread isnt.0) some)
    ]

at_most : (N M : ℕ → ℕ) → ((thread : ℕ) → N thread ≤ M thread) → (turns : List Turn) → list_all (λ (turn : Turn). leb (N turn.thread) (M turn.thread)) turns ≡ true
at_most N M le [] = refl
at_most N M le (turn ∷ turns) = elim (leb_tells (N turn.thread) (M turn.thread)) [
  | inl is ↦ rw is.0 (at_most N M le turns)
  | inr isnt ↦ absurd (omega (arith, isnt.1, le turn.thread))
]

-- where all are made, each thread made all
pub made_all : (turns made : List Turn) → are_all_made turns made ≡ true → (thread : ℕ) → number_of_calls thread turns ≤ number_of_calls thread made
made_all turns made all thread = elim (leb_tells (number_of_calls thread turns) 0) [
  | inl none ↦ omega (arith, none.1)
  | inr some ↦ at_least (λ t. number_of_calls t turns) (λ t. number_of_calls t made) turns thread all (omega (arith, some.1))
]

pub all_made : (turns made : List Turn) → ((thread : ℕ) → number_of_calls thread turns ≤ number_of_calls thread made) → are_all_made turns made ≡ true
all_made turns made le = at_most (λ t. number_of_calls t turns) (λ t. number_of_calls t made) le turns

-- ---- threads

-- the calls of one thread more
pub by_thread_more : (threads : ℕ) (turns : List Turn) → by_thread (threads + 1) turns ≡ by_thread threads turns ++ calls_of threads turns ∷ []
by_thread_more threads turns = map-range_with_len_more (λ t. calls_of t turns) 0 threads threads (omega arith)

-- ---- the next call

-- no thread has a call left where each made all
empty_phase : (phase : List (List Call)) → ((thread : ℕ) → thread_calls phase thread ≡ []) → are_all_empty phase ≡ true
empty_phase [] none = refl
empty_phase (calls ∷ phase) none =
    let first : calls ≡ [] = none 0 in
    let rest : are_all_empty phase ≡ true = empty_phase phase (λ thread. none (suc thread)) in
    rw (first, rest) refl

full_phase : (phase : List (List Call)) → are_all_empty phase ≡ true → (thread : ℕ) → length (thread_calls phase thread) ≡ 0
full_phase [] none thread = refl
full_phase (calls ∷ phase) none zero =
    let test = λ (calls : List Call). eqb (length calls) 0 in
    let parts = and_parts (test calls) (list_all test phase) none in
    elim (eqb_tells (length calls) 0) [ inl is ↦ is.1 | inr isnt ↦ absurd (cc (isnt.0, parts.0)) ]
full_phase (calls ∷ phase) none (suc thread) =
    let test = λ (calls : List Call). eqb (length calls) 0 in
    full_phase phase (and_parts (test calls) (list_all test phase) none).1 thread

nothing_left : (thread : ℕ) (turns made : List Turn) → number_of_calls thread turns ≤ number_of_calls thread made → drop (number_of_calls thread made) (calls_of thread turns) ≡ []
nothing_left thread turns made le = drop_of_length-le (calls_of thread turns) le

-- what a thread has left first is the plan's next call
pub first_is_next : (plan : Plan) (made : List Turn) (schedule : Schedule) → IsScheduleOf plan made schedule → (thread : ℕ) → first_left schedule.phase thread ≡ next_in [] plan.phases made thread
first_is_next plan made schedule is thread = by_made (are_all_made turns made) refl
  where
    turns : List Turn
    turns = is.done ++ is.phase

    told : next_in [] plan.phases made thread ≡ next_in is.done (is.phase ∷ is.later) made thread
    told = subst (λ (m : List Turn). next_in [] plan.phases m thread ≡ next_in is.done (is.phase ∷ is.later) m thread) (append-nil made) (is.next [] thread)

    behind : first_left schedule.phase thread ≡ slice_get (calls_of thread turns) (number_of_calls thread made)
    behind = ap (λ (calls : List Call). slice_get calls 0) (is.left thread) ∙ get_behind (calls_of thread turns) (number_of_calls thread made)

    by_made : (all : Bool) → are_all_made turns made ≡ all → first_left schedule.phase thread ≡ next_in [] plan.phases made thread
    by_made false some =
        behind ∙ sym (told ∙ ap (λ (b : Bool). cond b (next_in turns is.later made thread) (slice_get (calls_of thread turns) (number_of_calls thread made))) some)
    by_made true all = elim is.runs [
      | inl runs ↦
          let none = empty_phase schedule.phase (λ t. is.left t ∙ nothing_left t turns made (made_all turns made all t)) in
          absurd (cc (runs, none))
      | inr last ↦
          let none : first_left schedule.phase thread ≡ None =
          ap (λ (calls : List Call). slice_get calls 0) (is.left thread ∙ nothing_left thread turns made (made_all turns made all thread)) in
          let end : next_in turns is.later made thread ≡ None = ap (λ (l : List (List Turn)). next_in turns l made thread) last in
          none ∙ sym (told ∙ ap (λ (b : Bool). cond b (next_in turns is.later made thread) (slice_get (calls_of thread turns) (number_of_calls thread made))) all ∙ end)
    ]

-- ---- by each call

-- a schedule but for the phase that runs, of which nothing may be left
record IsAlmost (plan : Plan) (made : List Turn) (counts : List ℕ) (left : List (List Call)) (behind : List (List (List Call))) : Type 0 where
  done : List Turn
  phase : List Turn
  later : List (List Turn)
  next : (more : List Turn) (thread : ℕ) → next_in [] plan.phases (made ++ more) thread ≡ next_in done (phase ∷ later) (made ++ more) thread
  threads : length counts ≡ plan.header.threads
  counted : (thread : ℕ) → thread < plan.header.threads → slice_index counts thread ≡ number_of_calls thread made
  rest : (thread : ℕ) → thread_calls left thread ≡ drop (number_of_calls thread made) (calls_of thread (done ++ phase))
  most : (thread : ℕ) → number_of_calls thread made ≤ number_of_calls thread (done ++ phase)
  is_behind : behind ≡ map (by_thread plan.header.threads) later
  known : All (AreOfThreads plan.header.threads) ((done ++ phase) ∷ later)

left_by_thread : (threads : ℕ) (turns : List Turn) → AreOfThreads threads turns → (thread : ℕ) → thread_calls (by_thread threads turns) thread ≡ calls_of thread turns
left_by_thread threads turns known thread = elim (leb_tells threads thread) [
  | inl past ↦
      let ends : length (by_thread threads turns) ≤ thread = omega (arith, length-map-range_with_len (λ t. calls_of t turns) 0 threads, past.1) in
      get_or_past (by_thread threads turns) thread [] ends ∙ sym (known thread past.1)
  | inr within ↦ get_or-map-range_with_len (λ t. calls_of t turns) 0 threads thread thread [] within.1 (omega arith)
]

-- the next phase may run once all calls of the one that runs are made
turn_page : (plan : Plan) (made : List Turn) (counts : List ℕ) (left : List (List Call)) (next : List Turn) (later : List (List Turn)) (behind : List (List (List Call)))
    → (almost : IsAlmost plan made counts left behind) → almost.later ≡ next ∷ later → are_all_empty left ≡ true
    → IsAlmost plan made counts (by_thread plan.header.threads next) (map (by_thread plan.header.threads) later)
turn_page plan made counts left next later behind almost is none = record {
  done = turns;
  phase = next;
  later = later;
  next = λ more thread. almost.next more thread ∙ ap (λ (l : List (List Turn)). next_in almost.done (almost.phase ∷ l) (made ++ more) thread) is ∙ passes more thread;
  threads = almost.threads;
  counted = almost.counted;
  rest = rest;
  most = λ thread. omega (arith, almost.most thread, number_append thread turns next);
  is_behind = refl;
  known = known;
}
  where
    turns : List Turn
    turns = almost.done ++ almost.phase

    all : (thread : ℕ) → number_of_calls thread turns ≤ number_of_calls thread made
    all thread =
        let empty : length (drop (number_of_calls thread made) (calls_of thread turns)) ≡ 0 = ap length (sym (almost.rest thread)) ∙ full_phase left none thread in
        none_behind (calls_of thread turns) (number_of_calls thread made) empty

    passes : (more : List Turn) (thread : ℕ) → next_in almost.done (almost.phase ∷ next ∷ later) (made ++ more) thread ≡ next_in turns (next ∷ later) (made ++ more) thread
    passes more thread =
        let done : are_all_made turns (made ++ more) ≡ true = all_made turns (made ++ more) (λ t. omega (arith, all t, number_append t made more)) in
        ap (λ (b : Bool). cond b (next_in turns (next ∷ later) (made ++ more) thread) (slice_get (calls_of thread turns) (number_of_calls thread (made ++ more)))) done

    mine : All (AreOfThreads plan.header.threads) (turns ∷ next ∷ later)
    mine = subst (λ (l : List (List Turn)). All (AreOfThreads plan.header.threads) (turns ∷ l)) is almost.known

    behind_known : All (AreOfThreads plan.header.threads) (next ∷ later)
    behind_known = All-tail (AreOfThreads plan.header.threads) turns (next ∷ later) mine

    next_known : AreOfThreads plan.header.threads next
    next_known = All-head (AreOfThreads plan.header.threads) next later behind_known

    both_known : AreOfThreads plan.header.threads (turns ++ next)
    both_known thread past =
        let front : calls_of thread turns ≡ [] = All-head (AreOfThreads plan.header.threads) turns (next ∷ later) mine thread past in
        calls_append thread turns next ∙ ap (λ (l : List Call). l ++ calls_of thread next) front ∙ next_known thread past

    known : All (AreOfThreads plan.header.threads) ((turns ++ next) ∷ later)
    known = All-cons (AreOfThreads plan.header.threads) (turns ++ next) later both_known (All-tail (AreOfThreads plan.header.threads) next later behind_known)

    rest : (thread : ℕ) → thread_calls (by_thread plan.header.threads next) thread ≡ drop (number_of_calls thread made) (calls_of thread (turns ++ next))
    rest thread =
        let number : number_of_calls thread made ≡ length (calls_of thread turns) = omega (arith, all thread, almost.most thread) in
        left_by_thread plan.header.threads next next_known thread
        ∙ sym (drop-append_seam (calls_of thread turns) (calls_of thread next))
        ∙ sym (ap (λ n. drop n (calls_of thread turns ++ calls_of thread next)) number)
        ∙ ap (drop (number_of_calls thread made)) (sym (calls_append thread turns next))

-- a phase with a call left goes on
pub settled_stays : (made : List ℕ) (phase : List (List Call)) (later : List (List (List Call))) → are_all_empty phase ≡ false → settled made phase later ≡ record { made = made; phase = phase; later = later }
settled_stays made phase [] some = refl
settled_stays made phase (next ∷ later) some =
    ap (λ (b : Bool). cond b (settled made next later) (record { made = made; phase = phase; later = next ∷ later })) some

-- a settled schedule is one of the plan
settles : (plan : Plan) (made : List Turn) (counts : List ℕ) (left : List (List Call)) (later : List (List Turn)) (behind : List (List (List Call)))
    → behind ≡ map (by_thread plan.header.threads) later → (almost : IsAlmost plan made counts left behind) → almost.later ≡ later
    → IsScheduleOf plan made (settled counts left behind)
unfolding turn_page
settles plan made counts left [] behind is almost end =
    subst (λ (b : List (List (List Call))). IsScheduleOf plan made (settled counts left b)) (sym is) (record {
      done = almost.done;
      phase = almost.phase;
      later = almost.later;
      next = almost.next;
      threads = almost.threads;
      counts = almost.counted;
      left = almost.rest;
      most = almost.most;
      behind = sym (ap (map (by_thread plan.header.threads)) end);
      known = almost.known;
      runs = inr end;
    })
settles plan made counts left (next ∷ later) behind is almost end =
    subst (λ (b : List (List (List Call))). IsScheduleOf plan made (settled counts left b)) (sym is)
    (by_left (λ none. settles plan made counts (by_thread plan.header.threads next) later (map (by_thread plan.header.threads) later) refl (turn_page plan made counts left next later behind almost end none) refl) (are_all_empty left) refl)
  where
    rest : List (List (List Call))
    rest = map (by_thread plan.header.threads) later

    chosen : Bool → Schedule
    chosen b = cond b (settled counts (by_thread plan.header.threads next) rest) (record { made = counts; phase = left; later = by_thread plan.header.threads next ∷ rest })

    by_left : (are_all_empty left ≡ true → IsScheduleOf plan made (settled counts (by_thread plan.header.threads next) rest)) → (none : Bool) → are_all_empty left ≡ none
        → IsScheduleOf plan made (settled counts left (by_thread plan.header.threads next ∷ rest))
    by_left turned true none = subst (λ (b : Bool). IsScheduleOf plan made (chosen b)) (sym none) (turned none)
    by_left turned false some =
        subst (λ (b : Bool). IsScheduleOf plan made (chosen b)) (sym some) (record {
          done = almost.done;
          phase = almost.phase;
          later = almost.later;
          next = almost.next;
          threads = almost.threads;
          counts = almost.counted;
          left = almost.rest;
          most = almost.most;
          behind = sym (ap (map (by_thread plan.header.threads)) end);
          known = almost.known;
          runs = inl some;
        })

-- ---- the first schedule

pub starts : (plan : Plan) → All (AreOfThreads plan.header.threads) plan.phases → IsScheduleOf plan [] (first_schedule plan)
starts plan known = settles plan [] (replicate plan.header.threads 0) [] plan.phases (map (by_thread plan.header.threads) plan.phases) refl almost refl
  where
    almost : IsAlmost plan [] (replicate plan.header.threads 0) [] (map (by_thread plan.header.threads) plan.phases)
    almost = record {
      done = [];
      phase = [];
      later = plan.phases;
      next = λ more thread. refl;
      threads = length-replicate plan.header.threads 0;
      counted = λ thread within. get_or-replicate plan.header.threads thread 0 0 within;
      rest = λ thread. refl;
      most = λ thread. omega arith;
      is_behind = refl;
      known = All-cons (AreOfThreads plan.header.threads) [] plan.phases (λ thread past. refl) known;
    }

-- ---- one call more

-- the turn of a call
abbrev turn : ℕ → Call → Turn
turn thread call = record { thread = thread; call = call }

pub one_more : (thread other : ℕ) (call : Call) (made : List Turn) → number_of_calls other (made ++ turn thread call ∷ []) ≡ number_of_calls other made + cond (eqb thread other) 1 0
one_more thread other call made = number_append other made (turn thread call ∷ []) ∙ ap (λ n. number_of_calls other made + n) (single (eqb thread other) refl)
  where
    single : (b : Bool) → eqb thread other ≡ b → number_of_calls other (turn thread call ∷ []) ≡ cond (eqb thread other) 1 0
    single true is = rw is refl
    single false isnt = rw isnt refl

pub takes : (plan : Plan) (made : List Turn) (schedule : Schedule) (thread : ℕ) (call : Call) → IsScheduleOf plan made schedule → thread < plan.header.threads
    → first_left schedule.phase thread ≡ Some call → IsScheduleOf plan (made ++ turn thread call ∷ []) (after_take schedule thread)
takes plan made schedule thread call is within first =
    settles plan longer counts (without_first schedule.phase thread) is.later schedule.later is.behind almost refl
  where
    longer : List Turn
    longer = made ++ turn thread call ∷ []

    counts : List ℕ
    counts = set schedule.made thread (slice_index schedule.made thread + 1)

    turns : List Turn
    turns = is.done ++ is.phase

    counted : (other : ℕ) → other < plan.header.threads → slice_index counts other ≡ number_of_calls other longer
    counted other below = elim (eqb_tells thread other) [
      | inl same ↦
          let at : slice_index counts other ≡ slice_index schedule.made thread + 1 = ap (slice_index counts) (sym same.1) ∙ get_or-set_same schedule.made thread (slice_index schedule.made thread + 1) 0 (omega (arith, is.threads, within)) in
          let one : number_of_calls other longer ≡ number_of_calls other made + 1 = one_more thread other call made ∙ ap (λ (b : Bool). number_of_calls other made + cond b 1 0) same.0 in
          at ∙ ap (λ n. n + 1) (is.counts thread within ∙ ap (λ t. number_of_calls t made) same.1) ∙ sym one
      | inr apart ↦
          let at : slice_index counts other ≡ slice_index schedule.made other = get_or-set_other schedule.made thread other (slice_index schedule.made thread + 1) 0 (λ e. apart.1 (sym e)) in
          let none : number_of_calls other longer ≡ number_of_calls other made = one_more thread other call made ∙ ap (λ (b : Bool). number_of_calls other made + cond b 1 0) apart.0 ∙ omega arith in
          at ∙ is.counts other below ∙ sym none
    ]

    known_place : thread < length schedule.phase
    known_place = elim (leb_tells (length schedule.phase) thread) [
      | inl past ↦
          let none : first_left schedule.phase thread ≡ None = ap (λ (calls : List Call). slice_get calls 0) (get_or_past schedule.phase thread [] past.1) in
          absurd (cc (first, none))
      | inr there ↦ there.1
    ]

    some_left : number_of_calls thread made < number_of_calls thread turns
    some_left = elim (leb_tells (number_of_calls thread turns) (number_of_calls thread made)) [
      | inl none ↦
          let empty : first_left schedule.phase thread ≡ None = ap (λ (calls : List Call). slice_get calls 0) (is.left thread ∙ nothing_left thread turns made none.1) in
          absurd (cc (first, empty))
      | inr some ↦ some.1
    ]

    rest : (other : ℕ) → thread_calls (without_first schedule.phase thread) other ≡ drop (number_of_calls other longer) (calls_of other turns)
    rest other = elim (eqb_tells thread other) [
      | inl same ↦
          let at : thread_calls (without_first schedule.phase thread) other ≡ drop 1 (thread_calls schedule.phase thread) =
          ap (thread_calls (without_first schedule.phase thread)) (sym same.1) ∙ get_or-set_same schedule.phase thread (drop 1 (thread_calls schedule.phase thread)) [] known_place in
          let one : number_of_calls other longer ≡ number_of_calls other made + 1 = one_more thread other call made ∙ ap (λ (b : Bool). number_of_calls other made + cond b 1 0) same.0 in
          at ∙ ap (drop 1) (ap (thread_calls schedule.phase) same.1 ∙ is.left other) ∙ drop_one_more (calls_of other turns) (number_of_calls other made)
          ∙ ap (λ n. drop n (calls_of other turns)) (sym one)
      | inr apart ↦
          let at : thread_calls (without_first schedule.phase thread) other ≡ thread_calls schedule.phase other = get_or-set_other schedule.phase thread other (drop 1 (thread_calls schedule.phase thread)) [] (λ e. apart.1 (sym e)) in
          let none : number_of_calls other longer ≡ number_of_calls other made = one_more thread other call made ∙ ap (λ (b : Bool). number_of_calls other made + cond b 1 0) apart.0 ∙ omega arith in
          at ∙ is.left other ∙ ap (λ n. drop n (calls_of other turns)) (sym none)
    ]

    most : (other : ℕ) → number_of_calls other longer ≤ number_of_calls other turns
    most other = elim (eqb_tells thread other) [
      | inl same ↦
          let one : number_of_calls other longer ≡ number_of_calls other made + 1 = one_more thread other call made ∙ ap (λ (b : Bool). number_of_calls other made + cond b 1 0) same.0 in
          let some : number_of_calls other made < number_of_calls other turns = subst (λ t. number_of_calls t made < number_of_calls t turns) same.1 some_left in
          omega (arith, one, some)
      | inr apart ↦
          let none : number_of_calls other longer ≡ number_of_calls other made + 0 = one_more thread other call made ∙ ap (λ (b : Bool). number_of_calls other made + cond b 1 0) apart.0 in
          omega (arith, none, is.most other)
    ]

    almost : IsAlmost plan longer counts (without_first schedule.phase thread) schedule.later
    almost = record {
      done = is.done;
      phase = is.phase;
      later = is.later;
      next = λ more other.
          let same : longer ++ more ≡ made ++ (turn thread call ∷ more) = append_assoc made (turn thread call ∷ []) more in
          subst (λ (m : List Turn). next_in [] plan.phases m other ≡ next_in is.done (is.phase ∷ is.later) m other) (sym same) (is.next (turn thread call ∷ more) other);
      threads = length-set schedule.made thread (slice_index schedule.made thread + 1) ∙ is.threads;
      counted = counted;
      rest = rest;
      most = most;
      is_behind = is.behind;
      known = is.known;
    }

-- the count that the schedule keeps of a thread is that of its calls; a thread past the header's made none
pub count_told : (plan : Plan) (made : List Turn) (schedule : Schedule) → IsScheduleOf plan made schedule → (thread : ℕ) → slice_index schedule.made thread ≡ number_of_calls thread made
count_told plan made schedule is thread = elim (leb_tells plan.header.threads thread) [
  | inl past ↦
      let no_calls : calls_of thread (is.done ++ is.phase) ≡ [] = All-head (AreOfThreads plan.header.threads) (is.done ++ is.phase) is.later is.known thread past.1 in
      get_or_past schedule.made thread 0 (omega (arith, is.threads, past.1)) ∙ omega (arith, is.most thread, ap length no_calls)
  | inr within ↦ is.counts thread within.1
]

-- the call that the schedule tells as due is the plan's
pub due_told : (plan : Plan) (made : List Turn) (schedule : Schedule) → IsScheduleOf plan made schedule → (thread number : ℕ)
    → due_in schedule thread number ≡ cond (eqb (number_of_calls thread made) number) (next_in [] plan.phases made thread) None
due_told plan made schedule is thread number = elim (leb_tells plan.header.threads thread) [
  | inl past ↦
      let ends : slice_get schedule.made thread ≡ None = slice_get_past schedule.made thread (omega (arith, is.threads, past.1)) in
      let no_calls : calls_of thread (is.done ++ is.phase) ≡ [] = All-head (AreOfThreads plan.header.threads) (is.done ++ is.phase) is.later is.known thread past.1 in
      let none : first_left schedule.phase thread ≡ None =
      ap (λ (calls : List Call). slice_get calls 0) (is.left thread ∙ ap (drop (number_of_calls thread made)) no_calls ∙ drop_of_length-le [] (omega arith)) in
      let no_next : next_in [] plan.phases made thread ≡ None = sym (first_is_next plan made schedule is thread) ∙ none in
      ap (λ (o : Option ℕ). cond (option_eq eqb o (Some number)) (first_left schedule.phase thread) None) ends
      ∙ sym (ap (λ (o : Option Call). cond (eqb (number_of_calls thread made) number) o None) no_next ∙ either (eqb (number_of_calls thread made) number))
  | inr within ↦
      let at : slice_get schedule.made thread ≡ Some (slice_index schedule.made thread) = slice_get-get_or schedule.made thread 0 (omega (arith, is.threads, within.1)) in
      ap (λ (o : Option ℕ). cond (option_eq eqb o (Some number)) (first_left schedule.phase thread) None) (at ∙ ap Some (is.counts thread within.1))
      ∙ ap (λ (o : Option Call). cond (eqb (number_of_calls thread made) number) o None) (first_is_next plan made schedule is thread)
]
  where
    either : (b : Bool) → cond {A = Option Call} b None None ≡ None
    either true = refl
    either false = refl
