-- The calls of a plan: what is next keeps its limits, the first are made, and what a call waits for.
use Rattle.std.proofs.Common.{◌≡◌, ℕ, zero, suc, ◌+◌, ◌<◌, ◌≤◌, ◌⊎◌, inl, inr, Bool, true, false, ◌&&◌, cond, eqb, leb, List, [], ◌∷◌, ◌++◌, length, map, take, Option, Some, None, refl, sym, ap, ◌∙◌, subst, arith}
use Rattle.std.specs.Prelude.{filter}
use Rattle.std.specs.List.{AllByRecursion, flat_map, list_all, slice_get}
use Rattle.std.proofs.lemmas.Bool.Decides.{eqb_tells, leb_tells}
use Rattle.std.proofs.lemmas.List.{append-nil, append_assoc, length-append, take_all}
use Rattle.std.proofs.lemmas.Option.{slice_get_past}
use Rattle.std.proofs.Math.Seq.{take-append_seam}
use Rattle.script.specs.declared.tree.Header.{Header}
use Rattle.script.specs.Plan.{Call, Plan, Turn, call_count}
use Rattle.script.specs.Rules.{IsPlan, IsTurn}
use Rattle.plain_heap.specs.declared.entry.Body.{Body}
use Rattle.plain_heap.specs.declared.entry.Body.TheVariants as body
use Rattle.plain_heap.specs.declared.entry.Entry.{Entry}
use Rattle.plain_heap.specs.Calls.{Follows, IsNext, are_all_made, calls_of, due_call, next_call, next_in, number_of_calls, turns_made, turns_of_plan}
use Rattle.plain_heap.proofs.EntryLemmas.{get_front}
use Rattle.heap_ledger.specs.Behind.{IsBehind}
use Rattle.heap_ledger.specs.Laws.{CallsAreDueUnlessBehind, CallsMadeAreFew, FirstCallsAreMade, NextCallsKeepTheirLimits, WhereNoneIsNextAllAreMade}
use Rattle.heap_ledger.specs.Ledger.{KeepsTurnLimits, Ledger}
use Rattle.heap_ledger.specs.Room.{calls_left}
use Rattle.heap_ledger.specs.Schedule.{IsScheduleOf, Schedule, after_take, first_left, first_schedule}
use Rattle.heap_ledger.proofs.CommitLemmas.{made_append}
use Rattle.heap_ledger.proofs.RoomLemmas.{first_calls, one_taken}
use Rattle.heap_ledger.proofs.ScheduleLemmas.{calls_append, first_is_next, made_all, number_append, starts, takes}
use Rattle.heap_ledger.proofs.StartLemmas.{each_known}

-- the turns of phases
abbrev joined : List (List Turn) → List Turn
joined phases = flat_map (λ (phase : List Turn). phase) phases

-- ---- limits

all-append : {X : Type 0} (P : X → Type 0) (xs ys : List X) → AllByRecursion P xs → AllByRecursion P ys → AllByRecursion P (xs ++ ys)
all-append P [] ys hx hy = hy
all-append P (x ∷ xs) ys hx hy = (hx.0, all-append P xs ys hx.1 hy)

-- each call of a thread is a turn of it
is_turn : (header : Header) (turns : List Turn) (thread n : ℕ) (call : Call) → AllByRecursion (IsTurn header) turns → slice_get (calls_of thread turns) n ≡ Some call
    → IsTurn header (record { thread = thread; call = call })
is_turn header [] thread n call are at = absurd (cc at)
is_turn header (turn ∷ turns) thread n call are at = elim (eqb_tells turn.thread thread) [
  | inl is ↦ by_place n (ap (λ b. slice_get (chosen b) n) (sym is.0) ∙ at) is.1 (λ m later. is_turn header turns thread m call are.1 later)
  | inr isnt ↦ is_turn header turns thread n call are.1 (ap (λ b. slice_get (chosen b) n) (sym isnt.0) ∙ at)
]
  where
    its : List Turn
    its = filter (λ (t : Turn). eqb t.thread thread) turns

    chosen : Bool → List Call
    chosen b = map (λ (t : Turn). t.call) (cond b (turn ∷ its) its)

    by_place : (n : ℕ) → slice_get (turn.call ∷ calls_of thread turns) n ≡ Some call → turn.thread ≡ thread
        → ((m : ℕ) → slice_get (calls_of thread turns) m ≡ Some call → IsTurn header (record { thread = thread; call = call })) → IsTurn header (record { thread = thread; call = call })
    by_place zero here same behind =
        let is : turn.call ≡ call = cc in
        subst (λ (c : Call). IsTurn header (record { thread = thread; call = c })) is (subst (λ t. IsTurn header (record { thread = t; call = turn.call })) same are.0)
    by_place (suc n) later same behind = behind n later

next_is_turn : (header : Header) (earlier made : List Turn) (phases : List (List Turn)) (thread : ℕ) (call : Call) → AllByRecursion (IsTurn header) earlier → AllByRecursion (AllByRecursion (IsTurn header)) phases
    → next_in earlier phases made thread ≡ Some call → IsTurn header (record { thread = thread; call = call })
next_is_turn header earlier made [] thread call h g is = absurd (cc is)
next_is_turn header earlier made (phase ∷ phases) thread call h g is =
    let turns = all-append (IsTurn header) earlier phase h g.0 in
    either (are_all_made (earlier ++ phase) made) is (next_is_turn header (earlier ++ phase) made phases thread call turns g.1) turns
  where
    either : (b : Bool) → cond b (next_in (earlier ++ phase) phases made thread) (slice_get (calls_of thread (earlier ++ phase)) (number_of_calls thread made)) ≡ Some call
        → (next_in (earlier ++ phase) phases made thread ≡ Some call → IsTurn header (record { thread = thread; call = call })) → AllByRecursion (IsTurn header) (earlier ++ phase)
        → IsTurn header (record { thread = thread; call = call })
    either true same later turns = later same
    either false same later turns = is_turn header (earlier ++ phase) thread (number_of_calls thread made) call turns same

pub next_keeps : NextCallsKeepTheirLimits
next_keeps plan entries thread call is next = next_is_turn plan.header [] (turns_made entries) plan.phases thread call tt is.turns next

-- the next call, if there is one, keeps its limits
pub next_limits : (plan : Plan) (entries : List Entry) (thread : ℕ) → IsPlan plan → KeepsTurnLimits plan.header thread (next_call plan entries thread)
next_limits plan entries thread is = by_next (next_call plan entries thread) refl
  where
    by_next : (next : Option Call) → next_call plan entries thread ≡ next → KeepsTurnLimits plan.header thread next
    by_next None same = tt
    by_next (Some call) same = next_keeps plan entries thread call is same

-- the same of one ledger or the other
pub moved_limits : (one other : Ledger) (thread : ℕ) (call : Option Call) → one ≡ other → KeepsTurnLimits one.plan.header thread call → KeepsTurnLimits other.plan.header thread call
moved_limits one other thread call same keeps = subst (λ (l : Ledger). KeepsTurnLimits l.plan.header thread call) same keeps

-- so does the one that is due
pub due_keeps : (plan : Plan) (entries : List Entry) (thread number : ℕ) → IsPlan plan → KeepsTurnLimits plan.header thread (due_call plan entries thread number)
due_keeps plan entries thread number is = by_test (eqb (number_of_calls thread (turns_made entries)) number)
  where
    by_test : (b : Bool) → KeepsTurnLimits plan.header thread (cond b (next_call plan entries thread) None)
    by_test true = next_limits plan entries thread is
    by_test false = tt

-- ---- the first calls

-- the next call of a thread stands in the plan at the number of its calls
next_stands : (earlier made : List Turn) (phases : List (List Turn)) (thread : ℕ) (call : Call) → next_in earlier phases made thread ≡ Some call
    → slice_get (calls_of thread (earlier ++ joined phases)) (number_of_calls thread made) ≡ Some call
next_stands earlier made [] thread call is = absurd (cc is)
next_stands earlier made (phase ∷ phases) thread call is = either (are_all_made (earlier ++ phase) made) is (next_stands (earlier ++ phase) made phases thread call)
  where
    moved : (earlier ++ phase) ++ joined phases ≡ earlier ++ joined (phase ∷ phases)
    moved = append_assoc earlier phase (joined phases)

    either : (b : Bool) → cond b (next_in (earlier ++ phase) phases made thread) (slice_get (calls_of thread (earlier ++ phase)) (number_of_calls thread made)) ≡ Some call
        → (next_in (earlier ++ phase) phases made thread ≡ Some call → slice_get (calls_of thread ((earlier ++ phase) ++ joined phases)) (number_of_calls thread made) ≡ Some call)
        → slice_get (calls_of thread (earlier ++ joined (phase ∷ phases))) (number_of_calls thread made) ≡ Some call
    either true same later =
        subst (λ (turns : List Turn). slice_get (calls_of thread turns) (number_of_calls thread made) ≡ Some call) moved (later same)
    either false same later =
        let front = get_front (calls_of thread (earlier ++ phase)) (calls_of thread (joined phases)) (number_of_calls thread made) call same in
        ap (λ (turns : List Turn). slice_get (calls_of thread turns) (number_of_calls thread made)) (sym moved)
        ∙ ap (λ (calls : List Call). slice_get calls (number_of_calls thread made)) (calls_append thread (earlier ++ phase) (joined phases)) ∙ front

-- the calls of a thread, with one turn more
calls_more : (thread other : ℕ) (call : Call) (made : List Turn) → calls_of other (made ++ record { thread = thread; call = call } ∷ []) ≡ calls_of other made ++ cond (eqb thread other) (call ∷ []) []
calls_more thread other call made =
    let turn : Turn = record { thread = thread; call = call } in
    calls_append other made (turn ∷ []) ∙ ap (λ (calls : List Call). calls_of other made ++ calls) (single (eqb thread other) refl)
  where
    single : (b : Bool) → eqb thread other ≡ b → calls_of other (record { thread = thread; call = call } ∷ []) ≡ cond (eqb thread other) (call ∷ []) []
    single true is = rw is refl
    single false isnt = rw isnt refl

-- one place more of a list
take_one_more : {X : Type 0} (xs : List X) (n : ℕ) (x : X) → slice_get xs n ≡ Some x → take (suc n) xs ≡ take n xs ++ x ∷ []
take_one_more [] n x at = absurd (cc at)
take_one_more (y ∷ xs) zero x at = let same : y ≡ x = cc in ap (λ z. z ∷ []) same
take_one_more (y ∷ xs) (suc n) x at = ap (λ zs. y ∷ zs) (take_one_more xs n x at)

-- the calls that a thread made are the first that it has
abbrev AreFirst : Plan → List Turn → ℕ → Type 0
AreFirst plan made thread = calls_of thread made ≡ take (number_of_calls thread made) (calls_of thread (turns_of_plan plan))

one_first : (plan : Plan) (made : List Turn) (thread other : ℕ) (call : Call) → AreFirst plan made other → next_in [] plan.phases made thread ≡ Some call
    → AreFirst plan (made ++ record { thread = thread; call = call } ∷ []) other
one_first plan made thread other call are next = elim (eqb_tells thread other) [
  | inl same ↦
      let calls = calls_more thread other call made ∙ ap (λ b. calls_of other made ++ cond b (call ∷ []) []) same.0 in
      let count : number_of_calls other longer ≡ suc (number_of_calls other made) = omega (arith, ap length calls, length-append (calls_of other made) (call ∷ [])) in
      let there = next_stands [] made plan.phases thread call next in
      let at : slice_get (calls_of other (turns_of_plan plan)) (number_of_calls other made) ≡ Some call = ap (λ t. slice_get (calls_of t (turns_of_plan plan)) (number_of_calls t made)) (sym same.1) ∙ there in
      calls ∙ ap (λ (front : List Call). front ++ call ∷ []) are ∙ sym (take_one_more (calls_of other (turns_of_plan plan)) (number_of_calls other made) call at)
      ∙ ap (λ n. take n (calls_of other (turns_of_plan plan))) (sym count)
  | inr apart ↦
      let calls = calls_more thread other call made ∙ ap (λ b. calls_of other made ++ cond b (call ∷ []) []) apart.0 ∙ append-nil (calls_of other made) in
      calls ∙ are ∙ ap (λ (own : List Call). take (length own) (calls_of other (turns_of_plan plan))) (sym calls)
]
  where
    longer : List Turn
    longer = made ++ record { thread = thread; call = call } ∷ []

-- what is kept by each call that follows a plan holds of all that were made
module _ (plan : Plan) (P : List Turn → Type 0) (kept : (made : List Turn) (thread : ℕ) (call : Call) → P made → next_in [] plan.phases made thread ≡ Some call
    → P (made ++ record { thread = thread; call = call } ∷ [])) where
  one_kept : (before : List Entry) (number thread : ℕ) (content : Body) → P (turns_made before) → IsNext plan before thread content
      → P (turns_made (before ++ record { number = number; thread = thread; body = content } ∷ []))
  one_kept before number thread (body.Call op frames answer) holds next =
      let last : Entry = record { number = number; thread = thread; body = body.Call op frames answer } in
      subst P (sym (made_append before (last ∷ []))) (kept (turns_made before) thread (record { op = op; frames = frames }) holds next)
  one_kept before number thread (body.Grow cache base) holds next =
      let last : Entry = record { number = number; thread = thread; body = body.Grow cache base } in
      subst P (sym (made_append before (last ∷ []) ∙ append-nil (turns_made before))) holds
  one_kept before number thread (body.Shrink cache base) holds next =
      let last : Entry = record { number = number; thread = thread; body = body.Shrink cache base } in
      subst P (sym (made_append before (last ∷ []) ∙ append-nil (turns_made before))) holds

  at_seam : (front later : List Entry) (next : Entry) → slice_get (front ++ next ∷ later) (length front) ≡ Some next
  at_seam [] later next = refl
  at_seam (x ∷ front) later next = at_seam front later next

  pub by_calls : (whole before rest : List Entry) → before ++ rest ≡ whole → Follows plan whole → P (turns_made before) → P (turns_made whole)
  by_calls whole before [] is follows holds = subst (λ (l : List Entry). P (turns_made l)) (sym (append-nil before) ∙ is) holds
  by_calls whole before (entry ∷ rest) is follows holds =
      let at : slice_get whole (length before) ≡ Some entry = ap (λ (l : List Entry). slice_get l (length before)) (sym is) ∙ at_seam before rest entry in
      let front : take (length before) whole ≡ before = ap (take (length before)) (sym is) ∙ take-append_seam before (entry ∷ rest) in
      let next = subst (λ (b : List Entry). IsNext plan b entry.thread entry.body) front (follows (length before) entry at) in
      by_calls whole (before ++ entry ∷ []) rest (append_assoc before (entry ∷ []) rest ∙ is) follows (one_kept before entry.number entry.thread entry.body holds next)

pub firsts_made : FirstCallsAreMade
firsts_made plan entries thread follows =
    by_calls plan (λ (made : List Turn). AreFirst plan made thread) (λ made other call are next. one_first plan made other thread call are next) entries [] entries refl follows refl

-- ---- all calls

-- some thread made fewer calls than it has
not_all : (N M : ℕ → ℕ) (turns : List Turn) → list_all (λ (turn : Turn). leb (N turn.thread) (M turn.thread)) turns ≡ false → (other : ℕ) × (M other < N other)
not_all N M [] some = absurd (cc some)
not_all N M (turn ∷ turns) some = elim (leb_tells (N turn.thread) (M turn.thread)) [
  | inl is ↦ not_all N M turns (ap (λ b. b && list_all (λ (t : Turn). leb (N t.thread) (M t.thread)) turns) (sym is.0) ∙ some)
  | inr isnt ↦ (turn.thread, isnt.1)
]

not_made : (turns made : List Turn) → are_all_made turns made ≡ false → (other : ℕ) × (number_of_calls other made < number_of_calls other turns)
not_made turns made some = not_all (λ t. number_of_calls t turns) (λ t. number_of_calls t made) turns some

-- there is an item at each place within
item_at : {X : Type 0} (xs : List X) (n : ℕ) → n < length xs → (x : X) × (slice_get xs n ≡ Some x)
item_at [] n lt = absurd (omega arith)
item_at (x ∷ xs) zero lt = (x, refl)
item_at (x ∷ xs) (suc n) lt = item_at xs n (omega arith)

-- where no item is, the list ends
past_from_none : {X : Type 0} (xs : List X) (n : ℕ) → slice_get xs n ≡ None → length xs ≤ n
past_from_none xs n none = elim (leb_tells (length xs) n) [
  | inl past ↦ past.1
  | inr within ↦ let found = item_at xs n within.1 in absurd (cc (found.1, none))
]

-- all turns were made, or some thread has a next call
all_or_next : (earlier made : List Turn) (phases : List (List Turn)) → ((t : ℕ) → number_of_calls t earlier ≤ number_of_calls t made)
    → ((t : ℕ) → number_of_calls t (earlier ++ joined phases) ≤ number_of_calls t made) ⊎ ((other : ℕ) × (call : Call) × (next_in earlier phases made other ≡ Some call))
all_or_next earlier made [] done = inl (λ t. omega (arith, done t, ap (number_of_calls t) (append-nil earlier)))
all_or_next earlier made (phase ∷ phases) done = by_made (are_all_made (earlier ++ phase) made) refl (all_or_next (earlier ++ phase) made phases)
  where
    by_made : (all : Bool) → are_all_made (earlier ++ phase) made ≡ all
        → (((t : ℕ) → number_of_calls t (earlier ++ phase) ≤ number_of_calls t made)
        → ((t : ℕ) → number_of_calls t ((earlier ++ phase) ++ joined phases) ≤ number_of_calls t made) ⊎ ((other : ℕ) × (call : Call) × (next_in (earlier ++ phase) phases made other ≡ Some call)))
        → ((t : ℕ) → number_of_calls t (earlier ++ joined (phase ∷ phases)) ≤ number_of_calls t made) ⊎ ((other : ℕ) × (call : Call) × (next_in earlier (phase ∷ phases) made other ≡ Some call))
    by_made true all later = elim (later (made_all (earlier ++ phase) made all)) [
      | inl each ↦ inl (λ t. omega (arith, each t, ap (number_of_calls t) (append_assoc earlier phase (joined phases))))
      | inr next ↦ inr (next.0, next.1, ap (λ b. cond b (next_in (earlier ++ phase) phases made next.0) (slice_get (calls_of next.0 (earlier ++ phase)) (number_of_calls next.0 made))) all ∙ next.2)
    ]
    by_made false some later =
        let other = not_made (earlier ++ phase) made some in
        let call = item_at (calls_of other.0 (earlier ++ phase)) (number_of_calls other.0 made) other.1 in
        inr (other.0, call.0, ap (λ b. cond b (next_in (earlier ++ phase) phases made other.0) (slice_get (calls_of other.0 (earlier ++ phase)) (number_of_calls other.0 made))) some ∙ call.1)

pub all_are_made : WhereNoneIsNextAllAreMade
all_are_made plan entries is follows none thread =
    let made = turns_made entries in
    elim (all_or_next [] made plan.phases (λ t. omega arith)) [
      | inl each ↦ firsts_made plan entries thread follows ∙ take_all (number_of_calls thread made) (calls_of thread (turns_of_plan plan)) (each thread)
      | inr next ↦
          let within = (next_keeps plan entries next.0 next.1 is next.2).thread in
          absurd (cc (none next.0 within, next.2))
    ]

-- ---- how many calls

-- a schedule of the calls that were made, and how many are left
record HasSchedule (plan : Plan) (made : List Turn) : Type 0 where
  schedule : Schedule
  its : IsScheduleOf plan made schedule
  few : length made + calls_left schedule ≤ call_count plan

pub made_few : CallsMadeAreFew
made_few plan entries is follows =
    let first : HasSchedule plan [] = record {
      schedule = first_schedule plan;
      its = starts plan (each_known plan.header plan.phases is.turns);
      few = omega (arith, first_calls plan);
    } in
    let last = by_calls plan (HasSchedule plan) kept entries [] entries refl follows first in
    omega (arith, last.few)
  where
    kept : (made : List Turn) (thread : ℕ) (call : Call) → HasSchedule plan made → next_in [] plan.phases made thread ≡ Some call → HasSchedule plan (made ++ record { thread = thread; call = call } ∷ [])
    kept made thread call has next =
        let left : first_left has.schedule.phase thread ≡ Some call = first_is_next plan made has.schedule has.its thread ∙ next in
        let within = (next_is_turn plan.header [] made plan.phases thread call tt is.turns next).thread in
        record {
          schedule = after_take has.schedule thread;
          its = takes plan made has.schedule thread call has.its within left;
          few = omega (arith, has.few, one_taken has.schedule thread call left, length-append made (record { thread = thread; call = call } ∷ []));
        }

-- ---- what a call waits for

-- the number of a thread's next call is past those of the turns of some first phases, of which some thread did not make all
record Waits (earlier : List Turn) (phases : List (List Turn)) (made : List Turn) (thread : ℕ) : Type 0 where
  place : ℕ
  later : number_of_calls thread (earlier ++ joined (take place phases)) ≤ number_of_calls thread made
  other : ℕ
  unmade : number_of_calls other made < number_of_calls other (earlier ++ joined (take place phases))

-- where nothing is next, all calls of the thread are made, or it waits
done_or_waits : (earlier made : List Turn) (phases : List (List Turn)) (thread : ℕ) → ((t : ℕ) → number_of_calls t earlier ≤ number_of_calls t made) → next_in earlier phases made thread ≡ None
    → (number_of_calls thread (earlier ++ joined phases) ≤ number_of_calls thread made) ⊎ Waits earlier phases made thread
done_or_waits earlier made [] thread done none = inl (omega (arith, done thread, ap (number_of_calls thread) (append-nil earlier)))
done_or_waits earlier made (phase ∷ phases) thread done none = by_made (are_all_made (earlier ++ phase) made) refl (done_or_waits (earlier ++ phase) made phases thread)
  where
    first_one : earlier ++ joined (take 1 (phase ∷ phases)) ≡ earlier ++ phase
    first_one = ap (λ (turns : List Turn). earlier ++ turns) (append-nil phase)

    by_made : (all : Bool) → are_all_made (earlier ++ phase) made ≡ all
        → (((t : ℕ) → number_of_calls t (earlier ++ phase) ≤ number_of_calls t made) → next_in (earlier ++ phase) phases made thread ≡ None
        → (number_of_calls thread ((earlier ++ phase) ++ joined phases) ≤ number_of_calls thread made) ⊎ Waits (earlier ++ phase) phases made thread)
        → (number_of_calls thread (earlier ++ joined (phase ∷ phases)) ≤ number_of_calls thread made) ⊎ Waits earlier (phase ∷ phases) made thread
    by_made true all later = elim (later (made_all (earlier ++ phase) made all)
        (ap (λ b. cond b (next_in (earlier ++ phase) phases made thread) (slice_get (calls_of thread (earlier ++ phase)) (number_of_calls thread made))) (sym all) ∙ none)) [
          | inl each ↦ inl (omega (arith, each, ap (number_of_calls thread) (append_assoc earlier phase (joined phases))))
          | inr waits ↦
              let moved : (earlier ++ phase) ++ joined (take waits.place phases) ≡ earlier ++ joined (take (suc waits.place) (phase ∷ phases)) = append_assoc earlier phase (joined (take waits.place phases)) in
              inr (record {
                place = suc waits.place;
                later = omega (arith, waits.later, ap (number_of_calls thread) moved);
                other = waits.other;
                unmade = omega (arith, waits.unmade, ap (number_of_calls waits.other) moved);
              })
        ]
    by_made false some later =
        let gone = ap (λ b. cond b (next_in (earlier ++ phase) phases made thread) (slice_get (calls_of thread (earlier ++ phase)) (number_of_calls thread made))) (sym some) ∙ none in
        let other = not_made (earlier ++ phase) made some in
        inr (record {
          place = 1;
          later = omega (arith, past_from_none (calls_of thread (earlier ++ phase)) (number_of_calls thread made) gone, ap (number_of_calls thread) first_one);
          other = other.0;
          unmade = omega (arith, other.1, ap (number_of_calls other.0) first_one);
        })

-- where all calls of a thread are made, nothing is next
none_if_done : (earlier made : List Turn) (phases : List (List Turn)) (thread : ℕ) → number_of_calls thread (earlier ++ joined phases) ≤ number_of_calls thread made → next_in earlier phases made thread ≡ None
none_if_done earlier made [] thread done = refl
none_if_done earlier made (phase ∷ phases) thread done =
    by_made (are_all_made (earlier ++ phase) made) refl
    (none_if_done (earlier ++ phase) made phases thread (omega (arith, done, ap (number_of_calls thread) (append_assoc earlier phase (joined phases)))))
  where
    moved : (earlier ++ phase) ++ joined phases ≡ earlier ++ joined (phase ∷ phases)
    moved = append_assoc earlier phase (joined phases)

    by_made : (all : Bool) → are_all_made (earlier ++ phase) made ≡ all → next_in (earlier ++ phase) phases made thread ≡ None → next_in earlier (phase ∷ phases) made thread ≡ None
    by_made true all later =
        ap (λ b. cond b (next_in (earlier ++ phase) phases made thread) (slice_get (calls_of thread (earlier ++ phase)) (number_of_calls thread made))) all
        ∙ later
    by_made false some later =
        ap (λ b. cond b (next_in (earlier ++ phase) phases made thread) (slice_get (calls_of thread (earlier ++ phase)) (number_of_calls thread made))) some
        ∙ slice_get_past (calls_of thread (earlier ++ phase)) (number_of_calls thread made) (omega (arith, done, ap (number_of_calls thread) moved, number_append thread (earlier ++ phase) (joined phases)))

-- where a call waits, nothing is next
none_if_waits : (earlier made : List Turn) (phases : List (List Turn)) (thread : ℕ) → ((t : ℕ) → number_of_calls t earlier ≤ number_of_calls t made) → (place other : ℕ)
    → number_of_calls thread (earlier ++ joined (take place phases)) ≤ number_of_calls thread made
    → number_of_calls other made < number_of_calls other (earlier ++ joined (take place phases)) → next_in earlier phases made thread ≡ None
none_if_waits earlier made [] thread done place other later unmade = refl
none_if_waits earlier made (phase ∷ phases) thread done zero other later unmade =
    absurd (omega (arith, unmade, done other, ap (number_of_calls other) (append-nil earlier)))
none_if_waits earlier made (phase ∷ phases) thread done (suc place) other later unmade =
    by_made (are_all_made (earlier ++ phase) made) refl (λ all.
    none_if_waits (earlier ++ phase) made phases thread all place other (omega (arith, later, ap (number_of_calls thread) (append_assoc earlier phase (joined (take place phases)))))
    (omega (arith, unmade, ap (number_of_calls other) (append_assoc earlier phase (joined (take place phases))))))
  where
    moved : (earlier ++ phase) ++ joined (take place phases) ≡ earlier ++ joined (take (suc place) (phase ∷ phases))
    moved = append_assoc earlier phase (joined (take place phases))

    by_made : (all : Bool) → are_all_made (earlier ++ phase) made ≡ all → (((t : ℕ) → number_of_calls t (earlier ++ phase) ≤ number_of_calls t made) → next_in (earlier ++ phase) phases made thread ≡ None)
        → next_in earlier (phase ∷ phases) made thread ≡ None
    by_made true all behind =
        ap (λ b. cond b (next_in (earlier ++ phase) phases made thread) (slice_get (calls_of thread (earlier ++ phase)) (number_of_calls thread made))) all
        ∙ behind (made_all (earlier ++ phase) made all)
    by_made false some behind =
        ap (λ b. cond b (next_in (earlier ++ phase) phases made thread) (slice_get (calls_of thread (earlier ++ phase)) (number_of_calls thread made))) some
        ∙ slice_get_past (calls_of thread (earlier ++ phase)) (number_of_calls thread made)
        (omega (arith, later, ap (number_of_calls thread) moved, number_append thread (earlier ++ phase) (joined (take place phases))))

pub due_unless : CallsAreDueUnlessBehind
due_unless plan entries thread number = (forth, back)
  where
    forth : due_call plan entries thread number ≡ None → IsBehind plan entries thread number
    forth none = elim (eqb_tells (number_of_calls thread (turns_made entries)) number) [
      | inl is ↦ elim (done_or_waits [] (turns_made entries) plan.phases thread (λ t. omega arith) (ap (λ b. cond b (next_call plan entries thread) None) (sym is.0) ∙ none)) [
        | inl done ↦ inl (slice_get_past (calls_of thread (turns_of_plan plan)) number (omega (arith, done, is.1)))
        | inr waits ↦ inr (inr (record { place = waits.place; later = omega (arith, waits.later, is.1); other = waits.other; unmade = waits.unmade }))
      ]
      | inr isnt ↦ inr (inl isnt.1)
    ]

    back : IsBehind plan entries thread number → due_call plan entries thread number ≡ None
    back behind = elim (eqb_tells (number_of_calls thread (turns_made entries)) number) [
      | inr isnt ↦ ap (λ b. cond b (next_call plan entries thread) None) isnt.0
      | inl is ↦ ap (λ b. cond b (next_call plan entries thread) None) is.0 ∙ none is.1 behind
    ]
      where
        none : number_of_calls thread (turns_made entries) ≡ number → IsBehind plan entries thread number → next_call plan entries thread ≡ None
        none is (inl no_such) =
            none_if_done [] (turns_made entries) plan.phases thread (omega (arith, past_from_none (calls_of thread (turns_of_plan plan)) number no_such, is))
        none is (inr (inl another)) = absurd (another is)
        none is (inr (inr waits)) =
            none_if_waits [] (turns_made entries) plan.phases thread (λ t. omega arith) waits.place waits.other (omega (arith, waits.later, is)) waits.unmade
